use Rattle.std.proofs.Common.{[], ◌∷◌, take, ap, ◌∙◌, arith}
use Rattle.mail.specs.Tables.{filled}
use Rattle.mail.proofs.Held.{filled_more}
use Rattle.grants.specs.Rules.{keys_of}
use Rattle.grants.proofs.Marking.{one_key, no_key, all_keys}
use Rattle.grants.proofs.lists.read_keys.Goals as goal
use Rattle.grants.proofs.lists.read_keys.Goals.{in-Some, in_default}

pub loop-n-preserved : goal.loop-n-preserved
loop-n-preserved g c = elim c.match-key.branch [
  | in-Some w ↦ rw w.keys-is
      (w.push_text.ensures
      ∙ ap (λ ts. filled 256 ts (w.in-Some.key.now ∷ [])) c.loop-n.invariant
      ∙ filled_more 256 [] (take c.loop-n.n (keys_of (g.S.PolicySource.meaning c.args.source.now))) (w.in-Some.key.now ∷ [])
      ∙ ap (filled 256 []) (one_key (g.S.PolicySource.meaning c.args.source.now) c.loop-n.n w.in-Some.key.now w.in-Some.ensures))
  | in_default w ↦ rw w.keys-is (c.loop-n.invariant ∙ ap (filled 256 []) (no_key (g.S.PolicySource.meaning c.args.source.now) c.loop-n.n w.in_default.ensures))
]

pub returns : goal.returns
returns g c = c.loop-n.invariant ∙ all_keys (g.S.PolicySource.meaning c.args.source.now) c.loop-n.n (g.S.PolicySource.lawful c.args.source.now) (omega arith)
