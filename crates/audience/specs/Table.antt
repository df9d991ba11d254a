-- Worked examples.
use Rattle.std.specs.Prelude.{◌≡◌, ℕ, true, false, List, [], ◌∷◌, length, Some, None, codes, Option}
use Rattle.address.specs.Examples.{Bares}
use Rattle.address.specs.Text.{Text}
use Rattle.email_policy.specs.Policy.{ListPolicy, DefaultPolicy, Entry}
use Rattle.email_policy.specs.declared.policy.ReplyTo.{ReplyTo}
use Rattle.email_policy.specs.declared.policy.PositiveReviewPolicy.{PositiveReviewPolicy}
use Rattle.email_policy.specs.declared.policy.PositiveReviewPolicy.TheVariants.{None as to_none, All as to_all}
use Rattle.audience.specs.Mail.{Mail}
use Rattle.audience.specs.Answers.{Recipients, Answer, mute, send, first_answer, positive_answer, bares, audience}
use Rattle.audience.specs.Known.{known_domain}
use Rattle.audience.specs.Counterexamples.{people}

-- the defaults of the first hour: nobody is replied to
abbrev pub first_hour : DefaultPolicy
first_hour = record {
  reply_to = record { author = false; list = false; recipients = false };
  positive_review = to_none;
  mute_all = false;
  cc = [];
  ignored_emails = [];
}

-- a list that replies to list and recipients, and has a cc text
abbrev pub list_l : Entry
list_l = record {
  key = codes "l@x.test";
  policy = record {
    reply_to = Some (record { author = false; list = true; recipients = true });
    positive_review = None;
    mute_all = None;
    cc = codes "s@x.test" ∷ [];
    ignored_emails = [];
  };
}

-- a list whose one ignored text is empty
abbrev pub list_m : Entry
list_m = record {
  key = codes "m@x.test";
  policy = record { reply_to = None; positive_review = None; mute_all = None; cc = []; ignored_emails = [] ∷ [] };
}

abbrev pub replying : ReplyTo → PositiveReviewPolicy → ListPolicy
replying r rank = record { reply_to = Some r; positive_review = Some rank; mute_all = None; cc = []; ignored_emails = [] }

-- a list that replies to the author alone, and to nobody without findings, and one that replies to recipients, also then
abbrev pub two_lists : List Entry
two_lists =
    record { key = codes "author@x.test"; policy = replying (record { author = true; list = false; recipients = false }) to_none }
    ∷ record { key = codes "all@x.test"; policy = replying (record { author = false; list = false; recipients = true }) to_all }
    ∷ []

abbrev pub mail : List Text → List Text → Mail
mail to cc = record { to = to; cc = cc; author = codes "a@z.test"; bot = codes "bot@x.test" }

abbrev pub to_two_lists : ℕ → Mail
to_two_lists n = mail (codes "author@x.test" ∷ codes "all@x.test" ∷ codes "a@z.test" ∷ []) (people n)

abbrev pub first : List Entry → Mail → Answer
first lists m = first_answer known_domain (record { defaults = first_hour; lists = lists }) m

abbrev pub positive : List Entry → Mail → Option Recipients
positive lists m = positive_answer known_domain (record { defaults = first_hour; lists = lists }) m

abbrev pub sends : List Text → List Text → Answer
sends to cc = send (record { to = to; cc = cc }) to_none

pub record WorkedExamples : Type 0 where
  -- the six texts and their bares
  pub addresses : Bares
  pub cc_text_is_added :
      first (list_l ∷ []) (mail (codes "l@x.test" ∷ []) (codes "p@y.test" ∷ []))
      ≡ sends (codes "l@x.test" ∷ []) (codes "p@y.test" ∷ codes "s@x.test" ∷ [])
  pub cc_text_already_in_to :
      first (list_l ∷ []) (mail (codes "l@x.test" ∷ codes "S@x.test" ∷ []) [])
      ≡ sends (codes "l@x.test" ∷ codes "S@x.test" ∷ []) []
  pub display_name_replaces_the_bare_in_its_place :
      first (list_l ∷ []) (mail (codes "l@x.test" ∷ []) (codes "p@y.test" ∷ codes "q@y.test" ∷ codes "P <p@y.test>" ∷ []))
      ≡ sends (codes "l@x.test" ∷ []) (codes "P <p@y.test>" ∷ codes "q@y.test" ∷ codes "s@x.test" ∷ [])
  -- the empty text stands in every author text, and m need not be named
  pub empty_ignored_text_shuts_out : first (list_l ∷ list_m ∷ []) (mail (codes "l@x.test" ∷ []) (codes "p@y.test" ∷ [])) ≡ mute
  pub nobody_is_addressed : first (list_l ∷ []) (mail [] []) ≡ mute
  -- the bot's bare stands in robot@x.test
  pub text_that_holds_the_bot_is_dropped :
      first (list_l ∷ []) (mail (codes "l@x.test" ∷ []) (codes "robot@x.test" ∷ []))
      ≡ sends (codes "l@x.test" ∷ []) (codes "s@x.test" ∷ [])
  -- one fewer than may be mailed: the first answer goes to them and the author, and so does the positive one
  pub first_below_the_limit : length (audience (first two_lists (to_two_lists 127))) ≡ 128
  pub positive_below_the_limit : length (bares (positive two_lists (to_two_lists 127))) ≡ 128
  -- at the limit: the author is not counted for the first answer, and is for the positive one
  pub first_at_the_limit : length (audience (first two_lists (to_two_lists 128))) ≡ 129
  pub positive_at_the_limit : positive two_lists (to_two_lists 128) ≡ None
  -- past it no individual is mailed, and the author is
  pub first_past_the_limit : first two_lists (to_two_lists 129) ≡ send (record { to = codes "a@z.test" ∷ []; cc = [] }) to_all
