-- An answer's bytes and its sizes.
use Rattle.std.proofs.Common.{◌≡◌, ℕ, ◌+◌, ◌<◌, ◌≤◌, eqb, ltb, List, [], ◌∷◌, length, set, replicate, Some, None, Ok, Err, Option, sym, refl, ap, ◌∙◌, arith}
use Rattle.std.proofs.lemmas.List.{length-append}
use Rattle.std.proofs.lemmas.Bool.{cond-true, cond-false, lt-ltb, le-ltb, ne_eqb}
use Rattle.address.specs.Text.{Text}
use Rattle.roll.specs.Packing.{word, pack_texts}
use Rattle.roll.specs.Written.{written}
use Rattle.roll.proofs.Writes.{written_is, written-append}
use Rattle.email_policy.specs.Packing.{some_text, pack_part}
use Rattle.email_policy.specs.declared.policy.PositiveReviewPolicy.{PositiveReviewPolicy}
use Rattle.audience.specs.Answers as audience
use Rattle.audience.specs.Answers.{everyone, somebody}
use Rattle.mail.specs.declared.letter.Mail.{Mail}
use Rattle.email_router.specs.declared.chosen.Recipients.{Recipients}
use Rattle.email_router.specs.declared.action.Size.{Size}
use Rattle.email_router.specs.declared.action.Action.TheVariants.{Mute, Send}
use Rattle.email_router.specs.declared.fault.RouterFault.TheVariants.{Tray}
use Rattle.email_router.specs.Actions.{recipients_of, sent_to, size_of, action_of, part_size, action_size}
use Rattle.email_router.specs.Envelope.{send_map, pack_send, pack_sent, nothing}
use Rattle.email_router.specs.Given.{given, answered}

-- sizes

pub part_length : (ts : List Text) → part_size (size_of ts) ≡ length (pack_part ts)
part_length [] = refl
part_length (t ∷ ts) =
    let l = length-append (word (length (t ∷ ts))) (pack_texts (t ∷ ts)) in
    omega (arith, cond-false (eqb (length (t ∷ ts)) 0) 0 (2 + length (pack_texts (t ∷ ts))) (ne_eqb (length (t ∷ ts)) 0 (λ e. omega arith)))

pub send_length : (r : audience.Recipients) (rank : PositiveReviewPolicy) → length (pack_send r rank) ≡ 1 + (length (pack_part r.to) + length (pack_part r.cc))
unfolding pack_send
send_length r rank = let l = length-append (pack_part r.to) (pack_part r.cc) in omega arith

pub action_length : (o : Option audience.Recipients) (rank : PositiveReviewPolicy) → action_size (action_of o rank) ≡ length (pack_sent o rank)
unfolding action_of
action_length None rank = refl
action_length (Some r) rank = let a = part_length r.to in let b = part_length r.cc in let s = send_length r rank in omega arith

-- whom it goes to

pub nobody-sent : (r : audience.Recipients) → length r.to + length r.cc ≡ 0 → somebody (everyone r) r ≡ None
nobody-sent r e = none (everyone r) (length-append r.to r.cc ∙ e)
  where
    none : (ts : List Text) → length ts ≡ 0 → somebody ts r ≡ None
    none [] h = refl
    none (t ∷ ts) h = absurd (omega arith)

pub somebody-sent : (r : audience.Recipients) → 0 < length r.to + length r.cc → somebody (everyone r) r ≡ Some r
somebody-sent r h = some (everyone r) (omega (arith, length-append r.to r.cc))
  where
    some : (ts : List Text) → 0 < length ts → somebody ts r ≡ Some r
    some [] h = absurd (omega arith)
    some (t ∷ ts) h = refl

module _ (r : Recipients) (m : Mail) (rank : PositiveReviewPolicy) where
  module _ (to cc : Size) (is_to : to ≡ size_of (recipients_of r m).to) (is_cc : cc ≡ size_of (recipients_of r m).cc) where
    pub action_mute : to.texts + cc.texts ≡ 0 → Mute ≡ action_of (sent_to r m) rank
    unfolding action_of sent_to
    action_mute e =
        let a = ap (λ s. s.texts) is_to in
        let b = ap (λ s. s.texts) is_cc in
        sym (ap (λ o. action_of o rank) (nobody-sent (recipients_of r m) (omega arith)))

    pub action_send : 0 < to.texts + cc.texts → Send to cc rank ≡ action_of (sent_to r m) rank
    unfolding action_of sent_to
    action_send h =
        let a = ap (λ s. s.texts) is_to in
        let b = ap (λ s. s.texts) is_cc in
        rw (is_to, is_cc) (sym (ap (λ o. action_of o rank) (somebody-sent (recipients_of r m) (omega arith))))

  -- the other way: what an action says of its bytes
  pub mute_bytes : Mute ≡ action_of (sent_to r m) rank → pack_sent (sent_to r m) rank ≡ nothing
  unfolding action_of
  mute_bytes = muted (sent_to r m)
    where
      muted : (o : Option audience.Recipients) → Mute ≡ action_of o rank → pack_sent o rank ≡ nothing
      muted None e = refl
      muted (Some s) e = let z : ◌≡◌ {A = ℕ} 0 1 = cc in absurd (omega arith)

  module _ (a b : Size) (k : PositiveReviewPolicy) (is : Send a b k ≡ action_of (sent_to r m) rank) where
    pub send_sizes : (pack_sent (sent_to r m) rank ≡ pack_send (recipients_of r m) rank) × (a.texts ≡ length (recipients_of r m).to) × (b.texts ≡ length (recipients_of r m).cc)
    unfolding sent_to action_of
    send_sizes = sent (everyone (recipients_of r m)) is
      where
        sent : (ts : List Text) → Send a b k ≡ action_of (somebody ts (recipients_of r m)) rank → (pack_sent (somebody ts (recipients_of r m)) rank ≡ pack_send (recipients_of r m) rank) × (a.texts ≡ length (recipients_of r m).to) × (b.texts ≡ length (recipients_of r m).cc)
        sent [] e = let z : ◌≡◌ {A = ℕ} 0 1 = cc in absurd (omega arith)
        sent (t ∷ ts) e =
            let x : a ≡ size_of (recipients_of r m).to = cc in
            let y : b ≡ size_of (recipients_of r m).cc = cc in
            (refl, ap (λ s. s.texts) x, ap (λ s. s.texts) y)

-- a Send is written: the bit map, and then both rolls
some-long : (ts : List Text) (n : ℕ) → n ≡ length ts → ltb 0 n ≡ some_text ts
some-long [] n e = rw e
some-long (t ∷ ts) n e = lt-ltb 0 n (omega arith)

pub send_written : (r : audience.Recipients) (rank : PositiveReviewPolicy) (d t u : List ℕ) (x next a b : ℕ) → a ≡ length r.to → b ≡ length r.cc → x ≡ send_map (ltb 0 a) (ltb 0 b) rank → t ≡ written (set d 0 x) 1 (pack_part r.to) → next ≡ 1 + length (pack_part r.to) → u ≡ written t next (pack_part r.cc) → u ≡ written d 0 (pack_send r rank)
unfolding pack_send written
send_written r rank d t u x next a b p q e f n g =
    rw (g, f, e, some-long r.to a p, some-long r.cc b q) (written-append (pack_part r.to) (pack_part r.cc) (set d 0 (send_map (some_text r.to) (some_text r.cc) rank)) 1 next n)

-- what a call gives
pub tray_refused : (bytes s t : List ℕ) (n : ℕ) → n ≡ length bytes → length t < n → given (Err (Tray n)) s t ≡ answered bytes s t
unfolding answered
tray_refused bytes s t n e h = rw (cond-true _ _ _ (lt-ltb (length t) (length bytes) (omega arith)), e)

pub tray_answered : (bytes s t l s' t' : List ℕ) (n : ℕ) → n ≡ length bytes → n ≤ length t → length l ≡ length s → s' ≡ replicate (length l) 0 → t' ≡ written t 0 bytes → given (Ok n) s' t' ≡ answered bytes s t
unfolding answered
tray_answered bytes s t l s' t' n e h k z w =
    let front : 0 + length bytes ≡ length bytes = omega arith in
    rw (cond-false _ _ _ (le-ltb (length t) (length bytes) (omega arith)), z, w, k, e, written_is bytes t 0 (omega arith), front)
