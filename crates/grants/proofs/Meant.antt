-- The terms of the marked lists, with their marks and cc texts, mean what the lists grant.
use Rattle.std.proofs.Common.{◌≡◌, Bool, true, false, cond, ◌&&◌, ◌||◌, List, [], ◌∷◌, map, refl, ap, ◌∙◌}
use Rattle.std.proofs.Math.Bool.{or-false}
use Rattle.address.specs.Text.{Text}
use Rattle.address.specs.Address.{same_bare}
use Rattle.keep_first.specs.Keep.{some}
use Rattle.email_policy.specs.Policy.{DefaultPolicy, Entry, Policy}
use Rattle.audience.specs.Rules as audience
use Rattle.audience.specs.Rules.{Named, unless_named, by_defaults, by_lists}
use Rattle.mail.specs.Marks.{marked}
use Rattle.grants.specs.declared.pass.Pass.{Pass}
use Rattle.grants.specs.declared.pass.Terms.{Terms}
use Rattle.grants.specs.Rules.{rule_in, named_in, named_by, grant_by, terms_by, replying, keys_of}

-- a list address is replied to by the key of a list that is marked for it, or by a named list that replies to list
replied : (q : Pass) (d : DefaultPolicy) (t : Text) (bs : List Bool) (es : List Entry) → some (λ k. same_bare k t) (marked (replying q d bs es) (map (λ e. e.key) es)) ≡ some (λ n. n.rule.reply_to.list && same_bare n.key t) (map (named_in q d) (marked bs es))
unfolding some marked replying
replied q d t [] es = refl
replied q d t (b ∷ bs) [] = refl
replied q d t (false ∷ bs) (e ∷ es) = replied q d t bs es
replied q d t (true ∷ bs) (e ∷ es) =
    elim (rule_in q d e.policy).reply_to.list as (λ r. some (λ k. same_bare k t) (cond r (e.key ∷ marked (replying q d bs es) (map (λ e. e.key) es)) (marked (replying q d bs es) (map (λ e. e.key) es))) ≡ ((r && same_bare e.key t) || some (λ n. n.rule.reply_to.list && same_bare n.key t) (map (named_in q d) (marked bs es)))) [
      | true ↦ ap (λ b. same_bare e.key t || b) (replied q d t bs es)
      | false ↦ replied q d t bs es
    ]

-- every list address, which only the defaults can grant, or those of the named lists
governed : (d : DefaultPolicy) (t : Text) (ns : List Named) → (unless_named ns d.reply_to.list false || some (λ n. n.rule.reply_to.list && same_bare n.key t) ns) ≡ (unless_named ns (by_defaults d) (by_lists d ns)).list t
unfolding some
governed d t [] = or-false d.reply_to.list
governed d t (n ∷ ns) = refl

-- what these terms grant, with the marks of the lists that are replied to, and the cc texts
abbrev pub meant_by : List Text → Terms → List Bool → List Text → audience.Grant
meant_by keys t lists cc = record {
  author = t.author;
  recipients = t.recipients;
  list = λ u. t.every_list || some (λ k. same_bare k u) (marked lists keys);
  cc = cc;
}

module _ (q : Pass) (marks : List Bool) (p : Policy) where
  pub terms-meant : (t : Terms) (lists : List Bool) (cc : List Text) → t ≡ terms_by q marks p → lists ≡ replying q p.defaults marks p.lists → cc ≡ (grant_by q marks p).cc → meant_by (keys_of p) t lists cc ≡ grant_by q marks p
  unfolding terms_by
  terms-meant t lists cc terms replied_to added =
      let list : (u : Text) → (t.every_list || some (λ k. same_bare k u) (marked lists (keys_of p))) ≡ (grant_by q marks p).list u = λ u.
      (λ i. (terms i).every_list || some (λ k. same_bare k u) (marked (replied_to i) (keys_of p)))
      ∙ ap (λ b. unless_named (named_by q marks p) p.defaults.reply_to.list false || b) (replied q p.defaults u marks p.lists)
      ∙ governed p.defaults u (named_by q marks p) in
      (λ i. record { author = (terms i).author; recipients = (terms i).recipients; list = λ u. list u i; cc = added i })
