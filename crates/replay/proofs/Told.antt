-- The people of an answer that was written to a tray.
use Rattle.std.proofs.Common.{◌≡◌, ℕ, true, false, cond, List, ◌++◌, length, drop, replicate, Some, None, Ok, Err, Option, Result, sym, refl, ap, ◌∙◌, nat_lt}
use Rattle.email_policy.specs.Policy.{Policy}
use Rattle.email_policy.specs.declared.policy.PositiveReviewPolicy.TheVariants.{None as to_none}
use Rattle.audience.specs.Known.{known_domain}
use Rattle.audience.specs.Answers.{Recipients, Answer, recipients, first_answer, positive_answer, send_or_mute}
use Rattle.grants.specs.declared.pass.Pass.{Pass}
use Rattle.grants.specs.declared.pass.Pass.TheVariants.{First, Positive}
use Rattle.email_router.specs.Door.{Asked, asked}
use Rattle.email_router.specs.Envelope.{pack_answer, pack_positive}
use Rattle.email_router.specs.Given.{Given, given, answered, unless_refused, mail_of, first_given, positive_given, given_by}
use Rattle.email_router.specs.Opened.{opened}
use Rattle.email_router.specs.declared.fault.RouterFault.{RouterFault}
use Rattle.email_router.specs.declared.fault.RouterFault.TheVariants.{Tray}
use Rattle.email_router.proofs.Opens.{opens, opens_positive}
use Rattle.packed_book.specs.Ends.{whole_book}
use Rattle.packed_book.specs.Reading.{read_book}
use Rattle.replay.specs.Lines as lines
use Rattle.replay.specs.Lines.{Call, resolve_line, if_answered, call_given, resolved_by}
use Rattle.replay.specs.People.{first_lines, positive_lines, answer_lines, people}

-- a refusal has no lines below, and an answer's bytes stand at the front of the tray
module _ (a : Result ℕ RouterFault) (s t bytes scratch tray below below' : List ℕ) (reads : (rest : List ℕ) → t ≡ bytes ++ rest → below ≡ below') where
  refused : (f : RouterFault) → a ≡ Err f → if_answered a below ≡ if_answered a below'
  refused f e = ap (λ (r : Result ℕ RouterFault). if_answered r below) e ∙ sym (ap (λ (r : Result ℕ RouterFault). if_answered r below') e)

  fits : given a s t ≡ answered bytes scratch tray → if_answered a below ≡ if_answered a below'
  unfolding answered
  fits = elim (nat_lt (length tray) (length bytes)) as (λ b. given a s t ≡ cond b (given (Err (Tray (length bytes))) scratch tray) (given (Ok (length bytes)) (replicate (length scratch) 0) (bytes ++ drop (length bytes) tray)) → if_answered a below ≡ if_answered a below') [
    | true ↦ λ e. refused (Tray (length bytes)) (ap (λ (g : Given). g.result) e)
    | false ↦ λ e. ap (if_answered a) (reads (drop (length bytes) tray) (ap (λ (g : Given). g.tray) e))
  ]

  delivered : (q : Asked) → given a s t ≡ unless_refused q scratch tray (answered bytes scratch tray) → if_answered a below ≡ if_answered a below'
  delivered (Ok u) e = fits e
  delivered (Err f) e = refused f (ap (λ (g : Given). g.result) e)

sent_back : (r : Option Recipients) → positive_lines (recipients (send_or_mute r to_none)) ≡ positive_lines r
sent_back None = refl
sent_back (Some r) = refl

module _ (p : Policy) (to cc author bot scratch tray : List ℕ) (a : Result ℕ RouterFault) (s t : List ℕ) where
  told_by : (pass : Pass) → given a s t ≡ given_by to cc author bot p scratch tray pass → if_answered a (answer_lines pass (opened t)) ≡ if_answered a (people pass p (mail_of to cc author bot))
  unfolding first_given positive_given
  told_by First e =
      let answer : Answer = first_answer known_domain p (mail_of to cc author bot) in
      delivered a s t (pack_answer answer) scratch tray (answer_lines First (opened t)) (people First p (mail_of to cc author bot))
      (λ rest k. ap (λ (x : Answer). first_lines x) (ap opened k ∙ opens answer rest))
      (asked to cc author bot scratch) e
  told_by Positive e =
      let answer : Option Recipients = positive_answer known_domain p (mail_of to cc author bot) in
      delivered a s t (pack_positive answer) scratch tray (answer_lines Positive (opened t)) (people Positive p (mail_of to cc author bot))
      (λ rest k. ap (λ (x : Answer). positive_lines (recipients x)) (ap opened k ∙ opens_positive answer rest) ∙ sent_back answer)
      (asked to cc author bot scratch) e

module _ (bs : List ℕ) (c : Call) (a : Result ℕ RouterFault) (s t printed : List ℕ) where
  pub told : whole_book bs ≡ Ok tt → given a s t ≡ call_given (read_book bs) c → printed ≡ resolve_line c.scratch (given a s t) ++ if_answered a (answer_lines c.pass (opened t)) → resolved_by bs c (whole_book bs) ≡ Ok (record { printed = printed; state = Some bs })
  told w g e =
      let below = told_by (read_book bs) c.to c.cc c.author c.bot c.scratch c.tray a s t c.pass g in
      let r : a ≡ (call_given (read_book bs) c).result = ap (λ (x : Given). x.result) g in
      let all : printed ≡ lines.resolved_lines (read_book bs) c =
      e
      ∙ ap (λ (l : List ℕ). resolve_line c.scratch (given a s t) ++ l) below
      ∙ (λ i. resolve_line c.scratch (g i) ++ if_answered (r i) (people c.pass (read_book bs) (mail_of c.to c.cc c.author c.bot))) in
      ap (resolved_by bs c) w ∙ sym (λ i. Ok (record { printed = all i; state = Some bs }))
