-- The numbers of a record decode: those of its fields, and the bit map.
use Rattle.std.proofs.Common.{◌≡◌, ℕ, zero, suc, ◌+◌, ◌*◌, ◌/◌, ◌%◌, ◌<◌, ◌≤◌, Bool, true, false, ◌&&◌, eqb, sym, refl, ap, ◌∙◌, mul-zero, mul-one, arith}
use Rattle.std.proofs.lemmas.Bool.{eq-eqb}
use Rattle.std.proofs.lemmas.Bool.Decides.{Decides-below_and, Decides-eqb}
use Rattle.email_policy.specs.declared.policy.ReplyTo.{ReplyTo}
use Rattle.email_policy.specs.declared.policy.PositiveReviewPolicy.{PositiveReviewPolicy}
use Rattle.email_policy.specs.declared.policy.PositiveReviewPolicy.TheVariants.{None, Author, All}
use Rattle.email_policy.specs.declared.policy.ReplyTarget.{ReplyTarget}
use Rattle.email_policy.specs.declared.policy.ReplyTarget.TheVariants.{Author as to_author, List as to_list, Recipients as to_recipients}
use Rattle.email_policy.specs.Numbers as specs
use Rattle.email_policy.specs.Numbers.{target_number, contains, weighed, reply_number, rank_number, mute_number, has_bit, reply_of, rank_of, mute_of}

-- f gives each number below m back: by computing it of each
module _ (f : ℕ → ℕ) where
  abbrev kept_below : ℕ → Bool
  kept_below zero = true
  kept_below (suc n) = eqb (f n) n && kept_below n

  pub kept : (m : ℕ) → kept_below m ≡ true → (n : ℕ) → n < m → f n ≡ n
  kept m h = (Decides-below_and (λ n. eqb (f n) n) (λ n. f n ≡ n) kept_below (λ n. Decides-eqb (f n) n) refl (λ _. refl) m).0 h

-- the values of a type are numbered from 0 to max
pub record Numbered {X : Type 0} (number : X → ℕ) (value : ℕ → X) (max : ℕ) : Type 0 where
  pub small : (x : X) → number x ≤ max
  pub back : (x : X) → value (number x) ≡ x
  pub number_back : (b : ℕ) → b ≤ max → number (value b) ≡ b

pub replies : Numbered reply_number reply_of 7
replies = record { small = small; back = back; number_back = λ b h. kept (λ n. reply_number (reply_of n)) 8 refl b (omega arith) }
  where
    at_most : (b : Bool) (n : ℕ) → weighed b n ≤ n
    at_most true n = omega arith
    at_most false n = omega arith

    small : (r : ReplyTo) → reply_number r ≤ 7
    small r = omega (arith, at_most r.author 1, at_most r.list 2, at_most r.recipients 4)

    of_flags : (p q s : Bool) → ◌≡◌ {A = ReplyTo} (reply_of (weighed p 1 + (weighed q 2 + weighed s 4))) (record { author = p; list = q; recipients = s })
    of_flags true true true = refl
    of_flags true true false = refl
    of_flags true false true = refl
    of_flags true false false = refl
    of_flags false true true = refl
    of_flags false true false = refl
    of_flags false false true = refl
    of_flags false false false = refl

    back : (r : ReplyTo) → reply_of (reply_number r) ≡ r
    back r = of_flags r.author r.list r.recipients

pub ranks : Numbered rank_number rank_of 2
ranks = record { small = small; back = back; number_back = λ b h. kept (λ n. rank_number (rank_of n)) 3 refl b (omega arith) }
  where
    small : (r : PositiveReviewPolicy) → rank_number r ≤ 2
    small None = omega arith
    small Author = omega arith
    small All = omega arith

    back : (r : PositiveReviewPolicy) → rank_of (rank_number r) ≡ r
    back None = refl
    back Author = refl
    back All = refl

pub mutes : Numbered mute_number mute_of 1
mutes = record { small = small; back = back; number_back = λ b h. kept (λ n. mute_number (mute_of n)) 2 refl b (omega arith) }
  where
    small : (m : Bool) → mute_number m ≤ 1
    small true = omega arith
    small false = omega arith

    back : (m : Bool) → mute_of (mute_number m) ≡ m
    back true = refl
    back false = refl

-- the bit map

pub weigh : (b : Bool) (w : ℕ) → weighed b w ≡ w * weighed b 1
weigh true w = sym (mul-one w)
weigh false w = sym (mul-zero w)

pub weighed-small : (b : Bool) → weighed b 1 ≤ 1
weighed-small true = omega arith
weighed-small false = omega arith

abbrev sum : Bool → Bool → Bool → Bool → Bool → ℕ
sum p q r s t = weighed p 1 + (weighed q 2 + (weighed r 4 + (weighed s 8 + weighed t 16)))

-- a sum of bits has those bits, and no other
pub record Bits (m : ℕ) (p q r s t : Bool) : Type 0 where
  pub reply : has_bit m 1 ≡ p
  pub rank : has_bit m 2 ≡ q
  pub mute : has_bit m 4 ≡ r
  pub copied : has_bit m 8 ≡ s
  pub ignored : has_bit m 16 ≡ t
  pub small : m < 32

module _ (p q r s t : Bool) where
  pub bits_of_sum : Bits (sum p q r s t) p q r s t
  bits_of_sum =
      let sp = weighed-small p in
      let sq = weighed-small q in
      let sr = weighed-small r in
      let ss = weighed-small s in
      let st = weighed-small t in
      let wq = weigh q 2 in
      let wr = weigh r 4 in
      let ws = weigh s 8 in
      let wt = weigh t 16 in
      let high : sum p q r s t / 16 ≡ weighed t 1 = omega arith in
      record {
        reply = bit p (sum p q r s t / 1) (omega arith);
        rank = bit q (sum p q r s t / 2) (omega arith);
        mute = bit r (sum p q r s t / 4) (omega arith);
        copied = bit s (sum p q r s t / 8) (omega arith);
        ignored = bit t (sum p q r s t / 16) (ap (λ x. x % 2) high ∙ remains t);
        small = omega arith;
      }
    where
      remains : (b : Bool) → weighed b 1 % 2 ≡ weighed b 1
      remains true = refl
      remains false = refl

      stands : (b : Bool) → eqb (weighed b 1) 1 ≡ b
      stands true = refl
      stands false = refl

      bit : (b : Bool) (n : ℕ) → n % 2 ≡ weighed b 1 → eqb (n % 2) 1 ≡ b
      bit b n h = ap (λ x. eqb x 1) h ∙ stands b

  -- where the first three bits stand, so do they in the remainder by 8
  pub low_bits : p ≡ true → q ≡ true → r ≡ true → sum p q r s t % 8 ≡ 7
  low_bits hp hq hr =
      let ss = weighed-small s in
      let st = weighed-small t in
      let ws = weigh s 8 in
      let wt = weigh t 16 in
      rw (hp, hq, hr) (omega arith)

-- a bit map is the sum of its bits
pub sum_of_bits : (m : ℕ) → m < 32 → sum (has_bit m 1) (has_bit m 2) (has_bit m 4) (has_bit m 8) (has_bit m 16) ≡ m
sum_of_bits = kept (λ m. sum (has_bit m 1) (has_bit m 2) (has_bit m 4) (has_bit m 8) (has_bit m 16)) 32 refl

pub full_bits : (m : ℕ) → m % 8 ≡ 7 → (has_bit m 1 ≡ true) × (has_bit m 2 ≡ true) × (has_bit m 4 ≡ true)
full_bits m h = (eq-eqb _ _ (omega arith), eq-eqb _ _ (omega arith), eq-eqb _ _ (omega arith))

target_bit : (r : ReplyTo) (t : ReplyTarget) → reply_of (reply_number r) ≡ r → has_bit (reply_number r) (target_number t) ≡ contains r t
target_bit r to_author e = ap (λ (x : ReplyTo). x.author) e
target_bit r to_list e = ap (λ (x : ReplyTo). x.list) e
target_bit r to_recipients e = ap (λ (x : ReplyTo). x.recipients) e

pub numbers : specs.Numbers
numbers = record {
  replies = replies.back;
  ranks = ranks.back;
  mutes = mutes.back;
  reply_bytes = replies.number_back;
  rank_bytes = ranks.number_back;
  mute_bytes = mutes.number_back;
  targets = λ r t. target_bit r t (replies.back r);
}
