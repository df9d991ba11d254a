-- Authors who are shut out, test after test.
use Rattle.std.proofs.Common.{◌≡◌, Bool, true, false, not, ◌&&◌, ◌||◌, eqb, [], ◌∷◌, length, sym, refl, ap, ◌∙◌, arith}
use Rattle.std.proofs.lemmas.Bool.{or_left, and_right, ne_eqb}
use Rattle.address.specs.Text.{Text, small, empty, holds}
use Rattle.address.specs.Address.{address_part, bare}
use Rattle.keep_first.specs.Keep.{some}
use Rattle.email_policy.specs.Policy.{Policy}
use Rattle.audience.specs.Mail.{Mail, nobody}
use Rattle.audience.specs.Rules.{ignored_texts, shut_out}

no_bytes : (u : Text) → eqb (length u) 0 ≡ empty (small u)
no_bytes [] = refl
no_bytes (b ∷ u) = ne_eqb (length (b ∷ u)) 0 (λ e. omega arith)

pub is_nobody : (b : Bool) (part t : Text) → part ≡ address_part t → b ≡ eqb (length part) 0 → nobody t ≡ b
is_nobody b part t e h = sym (h ∙ ap (λ u. eqb (length u) 0) e ∙ no_bytes (address_part t))

module _ (p : Policy) (m : Mail) (author : Text) (is_author : author ≡ m.author) where
  ignored : some (λ t. holds (small author) (small t)) (ignored_texts p) ≡ some (λ t. holds (small m.author) (small t)) (ignored_texts p)
  ignored = ap (λ a. some (λ t. holds (small a) (small t)) (ignored_texts p)) is_author

  pub shut_by_ignored : true ≡ some (λ t. holds (small author) (small t)) (ignored_texts p) → true ≡ shut_out p m
  shut_by_ignored e = sym (or_left _ _ (sym (e ∙ ignored)))

  module _ (heard : false ≡ some (λ t. holds (small author) (small t)) (ignored_texts p)) (bot : Text) (is_bot : bot ≡ address_part m.bot) where
    -- no ignored text stands in it, so that the bot decides
    by_bot : (b : Bool) → (not (nobody m.bot) && (not (nobody m.author) && holds (small m.author) (bare m.bot))) ≡ b → b ≡ shut_out p m
    by_bot b e = sym e ∙ ap (λ v. v || (not (nobody m.bot) && (not (nobody m.author) && holds (small m.author) (bare m.bot)))) (heard ∙ ignored)

    pub open_without_bot : true ≡ eqb (length bot) 0 → false ≡ shut_out p m
    open_without_bot e = by_bot false (ap (λ b. not b && (not (nobody m.author) && holds (small m.author) (bare m.bot))) (is_nobody true bot m.bot is_bot e))

    module _ (part : Text) (is_part : part ≡ address_part m.author) where
      pub open_without_author : true ≡ eqb (length part) 0 → false ≡ shut_out p m
      open_without_author e =
          by_bot false (ap (λ b. not (nobody m.bot) && (not b && holds (small m.author) (bare m.bot))) (is_nobody true part m.author is_part e)
          ∙ and_right (not (nobody m.bot)) false refl)

      pub shut_by_bot : (b : Bool) (text : Text) → text ≡ m.author → false ≡ eqb (length bot) 0 → false ≡ eqb (length part) 0 → b ≡ holds (small text) (small bot) → b ≡ shut_out p m
      shut_by_bot b text is_text f g h =
          by_bot b ((λ i. not (is_nobody false bot m.bot is_bot f i) && (not (is_nobody false part m.author is_part g i) && holds (small m.author) (bare m.bot)))
          ∙ sym (h ∙ (λ i. holds (small (is_text i)) (small (is_bot i)))))
