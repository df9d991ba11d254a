-- The lists that a mail names, as they are found.
use Rattle.std.proofs.Common.{◌≡◌, ◌≤◌, Bool, List, map, length, take, ap, ◌∙◌, arith}
use Rattle.std.proofs.lemmas.List.{length-map, take_all}
use Rattle.address.specs.Text.{Text}
use Rattle.address.specs.Address.{same_bare}
use Rattle.keep_first.specs.Keep.{some}
use Rattle.email_policy.specs.Policy.{Policy}
use Rattle.email_policy.specs.Lawful.{Lawful}
use Rattle.audience.specs.Mail.{Mail, incoming}
use Rattle.grants.specs.Rules.{keys_of}
use Rattle.grants.proofs.ByMarks.{key_marks}
use Rattle.email_router.specs.Chosen.{Named}

-- there is room for a mark of each list of a lawful policy
pub named_found : (p : Policy) (m : Mail) (ks : List Text) (bs : List Bool) → Lawful p → ks ≡ keys_of p → bs ≡ take 256 (map (λ k. some (same_bare k) (incoming m)) ks) → Named p m ks bs
named_found p m ks bs lawful keys found =
    let few = lawful.few in
    let all : length (map (λ k. some (same_bare k) (incoming m)) (keys_of p)) ≤ 256 = omega (arith, length-map (keys_of p) (λ k. some (same_bare k) (incoming m)), length-map p.lists (λ e. e.key)) in
    record {
      keys = keys;
      marks = found ∙ ap (λ ks. take 256 (map (λ k. some (same_bare k) (incoming m)) ks)) keys ∙ take_all 256 _ all ∙ key_marks p m;
    }
