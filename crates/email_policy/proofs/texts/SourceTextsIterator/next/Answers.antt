use Rattle.std.proofs.Common.{arith, ap, length}
use Rattle.std.proofs.lemmas.List.{drop_all}
use Rattle.email_policy.specs.Texts.{record_of, texts_of}
use Rattle.email_policy.proofs.FewTexts.{texts-few}
use Rattle.email_policy.proofs.Nth.{nth_some, nth_none}
use Rattle.email_policy.proofs.texts.SourceTextsIterator.next.Goals as goal

pub returns-then-self-ge-MOST_TEXTS-clause-steps : goal.returns-then-self-ge-MOST_TEXTS-clause-steps
returns-then-self-ge-MOST_TEXTS-clause-steps g c =
    let s = c.args.self.now in
    let few = texts-few (g.S.PolicySource.meaning s.source.now) (g.S.PolicySource.lawful s.source.now) s.whose s.field in
    let d = drop_all s.next (texts_of s.field (record_of (g.S.PolicySource.meaning s.source.now) s.whose)) (omega (arith, c.if-self-ge-MOST_TEXTS.true)) in
    (d, d)

pub returns-in_err-text-clause-steps : goal.returns-in_err-text-clause-steps
returns-in_err-text-clause-steps g c =
    let s = c.args.self.now in
    let d = drop_all s.next (texts_of s.field (record_of (g.S.PolicySource.meaning s.source.now) s.whose)) (nth_none _ s.next c.in_err-text.ensures) in
    rw c.from_residual.ensures (d, d)

pub overflow_add-self : goal.overflow_add-self
overflow_add-self g c =
    let s = c.args.self.now in
    let few = texts-few (g.S.PolicySource.meaning s.source.now) (g.S.PolicySource.lawful s.source.now) s.whose s.field in
    let t = (nth_some (texts_of s.field (record_of (g.S.PolicySource.meaning s.source.now) s.whose)) s.next c.in_ok-text.text.now c.in_ok-text.ensures).1 in
    omega arith

pub returns-clause-steps : goal.returns-clause-steps
returns-clause-steps g c =
    let s = c.args.self.now in
    (nth_some (texts_of s.field (record_of (g.S.PolicySource.meaning s.source.now) s.whose)) s.next c.in_ok-text.text.now c.in_ok-text.ensures).0

pub returns-clause-goes : goal.returns-clause-goes
returns-clause-goes g c =
    let s = c.args.self.now in
    let d = ap length (nth_some (texts_of s.field (record_of (g.S.PolicySource.meaning s.source.now) s.whose)) s.next c.in_ok-text.text.now c.in_ok-text.ensures).0 in
    grind (arith, d)
