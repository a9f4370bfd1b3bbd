use Rattle.command_laws.proofs.Decoding.{files-come-back}
use Rattle.command_laws.proofs.laws.encoded_files_come_back.Goals as goal

pub returns : goal.returns
returns c = files-come-back (record {
  none = c.no_distance_is_equal.ensures;
  trellis = c.sent_labels_are_decoded.ensures.least;
  quarters = c.sent_labels_are_decoded-2.ensures.least;
  kept = c.few_labels_are_unreleased.ensures.never_lost;
})
