use Rattle.bit_stuffing.proofs.Names.{sym, subst, ap, ◌∙◌, Some, None, Finds, Aborted}
use Rattle.bit_stuffing.specs.Events.{IsEvent}
use Rattle.bit_stuffing.proofs.Contents.{GathersNow, gathers-next, piece-answer, piece-lent, none-lent, no_closing, closes-fits}
use Rattle.bit_stuffing.proofs.Contents.{closes-gathers}
use Rattle.bit_stuffing.proofs.Found.{is_answer}
use Rattle.bit_stuffing.proofs.deframer.Deframer.push.Goals as goal

pub returns-in-Some-Closed-clause-answer : goal.returns-in-Some-Closed-clause-answer
returns-in-Some-Closed-clause-answer c = λ past h.
    let found = subst (λ v. Finds v past) (sym (ap (λ v. v.finding) c.self.view_is ∙ c.gather.ensures.finding)) h.finds in
    let now = subst (λ v. GathersNow v.gathering past c.args.bit) (sym c.self.view_is) (c.gather.ensures.gathers past c.args.bit h) in
    let closes = subst (λ e. IsEvent past c.args.bit (Some e)) c.in-Some-Closed.field-0-is (c.in-Some-Closed.ensures.answer past found) in
    piece-answer past c.args.bit c.judge-piece.result closes
    (c.judge-piece.ensures.judged _ (closes-fits past c.args.bit closes) (closes-gathers past c.args.bit _ now closes))

pub returns-in-Some-Closed-clause-stands : goal.returns-in-Some-Closed-clause-stands
returns-in-Some-Closed-clause-stands c = λ past h.
    let found = subst (λ v. Finds v past) (sym (ap (λ v. v.finding) c.self.view_is ∙ c.gather.ensures.finding)) h.finds in
    let now = subst (λ v. GathersNow v.gathering past c.args.bit) (sym c.self.view_is) (c.gather.ensures.gathers past c.args.bit h) in
    let closes = subst (λ e. IsEvent past c.args.bit (Some e)) c.in-Some-Closed.field-0-is (c.in-Some-Closed.ensures.answer past found) in
    let fits = closes-fits past c.args.bit closes in
    let gathered = closes-gathers past c.args.bit _ now closes in
    record {
      finds = c.push.ensures.stands past found;
      gathers = gathers-next past c.args.bit _ now;
      lends = piece-lent past c.args.bit _ c.judge-piece.result c.is_whole-self-inside.result closes
          (c.judge-piece.ensures.judged _ fits gathered)
          (c.judge-piece.ensures.whole _ fits gathered) c.is_whole-self-inside.ensures.yes c.is_whole-self-inside.ensures.no;
    }

pub returns-in-Some-Aborted-clause-stands : goal.returns-in-Some-Aborted-clause-stands
returns-in-Some-Aborted-clause-stands c = λ past h.
    let found = subst (λ v. Finds v past) (sym (ap (λ v. v.finding) c.self.view_is ∙ c.gather.ensures.finding)) h.finds in
    let now = subst (λ v. GathersNow v.gathering past c.args.bit) (sym c.self.view_is) (c.gather.ensures.gathers past c.args.bit h) in
    record {
      finds = c.push.ensures.stands past found;
      gathers = gathers-next past c.args.bit _ now;
      lends = none-lent past c.args.bit
          (no_closing past c.args.bit
          (subst (λ e. IsEvent past c.args.bit (Some e)) c.in-Some-Aborted.field-0-is (c.in-Some-Aborted.ensures.answer past found)));
    }

pub returns-in-None-clause-stands : goal.returns-in-None-clause-stands
returns-in-None-clause-stands c = λ past h.
    let found = subst (λ v. Finds v past) (sym (ap (λ v. v.finding) c.self.view_is ∙ c.gather.ensures.finding)) h.finds in
    let now = subst (λ v. GathersNow v.gathering past c.args.bit) (sym c.self.view_is) (c.gather.ensures.gathers past c.args.bit h) in
    assumption (
      c.push.ensures.stands past found,
      gathers-next past c.args.bit _ now,
      none-lent past c.args.bit (c.in-None.ensures.answer past found).1,
    )

pub returns-in-Some-Closed-clause-value : goal.returns-in-Some-Closed-clause-value
returns-in-Some-Closed-clause-value c = λ past h. is_answer past c.args.bit _ (returns-in-Some-Closed-clause-answer c past h)

pub returns-in-Some-Aborted-clause-value : goal.returns-in-Some-Aborted-clause-value
returns-in-Some-Aborted-clause-value c = λ past h.
    let found = subst (λ v. Finds v past) (sym (ap (λ v. v.finding) c.self.view_is ∙ c.gather.ensures.finding)) h.finds in
    is_answer past c.args.bit (Some Aborted)
    (subst (λ e. IsEvent past c.args.bit (Some e)) c.in-Some-Aborted.field-0-is (c.in-Some-Aborted.ensures.answer past found))

pub returns-in-None-clause-value : goal.returns-in-None-clause-value
returns-in-None-clause-value c = λ past h.
    let found = subst (λ v. Finds v past) (sym (ap (λ v. v.finding) c.self.view_is ∙ c.gather.ensures.finding)) h.finds in
    is_answer past c.args.bit None (c.in-None.ensures.answer past found)
