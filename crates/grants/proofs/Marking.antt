-- The marks and the keys of a lawful policy's lists fit in their tables.
use Rattle.std.proofs.Common.{◌≡◌, ℕ, ◌+◌, ◌≤◌, Bool, List, [], ◌∷◌, ◌++◌, length, take, Some, None, sym, ap, ◌∙◌, arith}
use Rattle.std.proofs.lemmas.List.{length-map, take_all}
use Rattle.std.proofs.lemmas.Option.{slice_get-map}
use Rattle.address.specs.Text.{Text}
use Rattle.email_policy.specs.Policy.{DefaultPolicy, Entry, Policy}
use Rattle.email_policy.specs.Lawful.{Lawful}
use Rattle.email_policy.specs.Source.{key_of}
use Rattle.mail.proofs.Held.{take_nth, take_nth_none}
use Rattle.grants.specs.declared.pass.Pass.{Pass}
use Rattle.grants.specs.Rules.{replying, keys_of}

module _ (q : Pass) (d : DefaultPolicy) where
  replying_short : (bs : List Bool) (es : List Entry) → length (replying q d bs es) ≤ length es
  unfolding replying
  replying_short [] es = omega arith
  replying_short (b ∷ bs) [] = omega arith
  replying_short (b ∷ bs) (e ∷ es) = omega (arith, replying_short bs es)

-- there is room for the marks of all lists
pub all_replying : (q : Pass) (p : Policy) (bs : List Bool) → Lawful p → take 256 (replying q p.defaults bs p.lists) ≡ replying q p.defaults bs p.lists
all_replying q p bs lawful = take_all 256 (replying q p.defaults bs p.lists) (omega (arith, replying_short q p.defaults bs p.lists, lawful.few))

-- the keys, one after another
module _ (p : Policy) (n : ℕ) where
  pub one_key : (k : Text) → Some k ≡ key_of p n → take n (keys_of p) ++ k ∷ [] ≡ take (n + 1) (keys_of p)
  one_key k e = take_nth (keys_of p) n k (e ∙ sym (slice_get-map (λ e. e.key) p.lists n))

  pub no_key : None ≡ key_of p n → take n (keys_of p) ≡ take (n + 1) (keys_of p)
  no_key e = take_nth_none (keys_of p) n (e ∙ sym (slice_get-map (λ e. e.key) p.lists n))

  pub all_keys : Lawful p → length p.lists ≤ n → take 256 (take n (keys_of p)) ≡ keys_of p
  all_keys lawful h =
      let k = length-map p.lists (λ e. e.key) in
      let f = lawful.few in
      ap (take 256) (take_all n (keys_of p) (omega arith)) ∙ take_all 256 (keys_of p) (omega arith)
