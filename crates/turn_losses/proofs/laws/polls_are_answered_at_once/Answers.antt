use Rattle.turn_losses.proofs.Keeping.{polls-keep-apart, replies-at-once, answers-match}
use Rattle.turn_losses.proofs.laws.polls_are_answered_at_once.Goals as goal

pub returns : goal.returns
returns c = record { apart = polls-keep-apart; replies = replies-at-once; awaited = answers-match }
