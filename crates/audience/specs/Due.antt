-- Who is due a review of a mail under a grant. Of the policy only the grant counts, and which texts are list addresses.
use Rattle.std.specs.Prelude.{◌≡◌, ℕ, ◌≤◌, Bool, true, false, cond, not, ◌&&◌, ◌⊎◌, List, [], ◌∷◌, ◌++◌, map, length, filter, nat_eq, nat_le}
use Rattle.std.specs.List.{ContainsAt as Has}
use Rattle.address.specs.Text.{Text, trimmed, empty}
use Rattle.address.specs.Address.{bare, same_bare}
use Rattle.keep_first.specs.Keep.{some, keep_first}
use Rattle.audience.specs.Mail.{Mail, incoming, nobody, free, mailable}
use Rattle.audience.specs.Rules.{Grant}

-- of two spellings of one bare, one that holds a `<` is preferred
abbrev pub has_angle : Text → Bool
has_angle t = some (λ b. nat_eq b 60) t

-- at most so many individuals are mailed; where there are more, none is
abbrev pub max_relayed_recipients : ℕ
max_relayed_recipients = 128

-- of those that pass, one spelling of each bare, at the place of its first
abbrev pub spellings : (Text → Bool) → List Text → List Text
spellings passes ts = map trimmed (keep_first same_bare has_angle (filter passes ts))

module _ (listed : Text → Bool) (m : Mail) (g : Grant) where
  -- an individual that is counted: one that is not mailed anyhow, as the author and the cc texts are, and not the bot
  abbrev pub counts : Text → Bool
  counts t =
      not (listed t) && (not (nobody t) && (not (same_bare m.bot t)
      && (not (g.author && same_bare m.author t) && not (some (same_bare t) g.cc))))

  abbrev pub individuals : List Text
  individuals = keep_first same_bare (λ t. false) (filter counts (incoming m))

  abbrev pub few : Bool
  few = nat_le (length individuals) max_relayed_recipients

  -- a list address qualifies as the grant says, an individual where individuals are granted and few
  abbrev pub qualifies : Text → Bool
  qualifies t = cond (listed t) (g.list t) (g.recipients && few)

  -- a candidate is the author, if granted, an address of the mail that qualifies, or a cc text
  abbrev pub Candidate : Text → Type 0
  Candidate c = ((g.author ≡ true) × (m.author ≡ c)) ⊎ ((Has (incoming m) c × (qualifies c ≡ true)) ⊎ Has g.cc c)

  -- a bare is due if it is not empty and some candidate with that bare is free of the bot
  pub record Due (b : Text) : Type 0 where
    pub somebody : empty b ≡ false
    pub candidate : (c : Text) × Candidate c × (bare c ≡ b) × (free m c ≡ true)

  -- few, in words: so many texts as there may be cover every individual that is counted
  abbrev pub Covered : Type 0
  Covered = (ys : List Text) × (length ys ≤ max_relayed_recipients) × ((t : Text) → Has (incoming m) t → counts t ≡ true → some (same_bare t) ys ≡ true)

  -- the candidates in their order. A blank author text is nobody's, so that it is not asked here
  abbrev pub to_candidates : List Text
  to_candidates = cond g.author (m.author ∷ []) [] ++ filter qualifies m.to

  abbrev pub cc_candidates : List Text
  cc_candidates = filter qualifies m.cc ++ g.cc

  abbrev pub to_texts : List Text
  to_texts = spellings (mailable m) to_candidates

  -- without those that To has
  abbrev pub cc_texts : List Text
  cc_texts = spellings (λ t. mailable m t && not (some (same_bare t) to_texts)) cc_candidates
