-- A roll of a lawful policy has few texts.
use Rattle.std.proofs.Common.{◌≡◌, ℕ, zero, suc, ◌≤◌, List, [], ◌∷◌, length, Some, None, Option, sym, refl, arith}
use Rattle.std.specs.List.{slice_get}
use Rattle.address.specs.Text.{Text}
use Rattle.email_policy.specs.Lawful.{FineEntry, Rising, Lawful}
use Rattle.email_policy.specs.Policy.{Entry, Policy}
use Rattle.email_policy.specs.Texts.{listed, record_of, texts_of}
use Rattle.email_policy.specs.declared.texts.Whose.{Whose}
use Rattle.email_policy.specs.declared.texts.Whose.TheVariants.{Defaults, List as Listed}
use Rattle.email_policy.specs.declared.texts.TextField.{TextField}
use Rattle.email_policy.specs.declared.texts.TextField.TheVariants.{Cc, IgnoredEmails}

pub rising_nth : (es : List Entry) (last : Text) (n : ℕ) (e : Entry) → Rising last es → slice_get es n ≡ Some e → FineEntry e
rising_nth [] last n e r h = let z : ◌≡◌ {A = ℕ} 0 1 = cc in absurd (omega arith)
rising_nth (x ∷ es) last zero e r h = let k : x ≡ e = cc in rw (sym k) r.1
rising_nth (x ∷ es) last (suc n) e r h = rising_nth es x.key n e r.2 h

pub texts-few : (p : Policy) → Lawful p → (w : Whose) (t : TextField) → length (texts_of t (record_of p w)) ≤ 32
texts-few p l Defaults Cc = l.defaults.within.cc
texts-few p l Defaults IgnoredEmails = l.defaults.within.ignored
texts-few p l (Listed n) t = at (slice_get p.lists n) refl t
  where
    at : (o : Option Entry) → slice_get p.lists n ≡ o → (t : TextField) → length (texts_of t (listed o)) ≤ 32
    at None h Cc = omega arith
    at None h IgnoredEmails = omega arith
    at (Some e) h Cc = (rising_nth p.lists [] n e l.rising h).policy.within.cc
    at (Some e) h IgnoredEmails = (rising_nth p.lists [] n e l.rising h).policy.within.ignored
