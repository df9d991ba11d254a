-- From what a grant gives a mail to whom it mails.
use Rattle.std.proofs.Common.{◌≡◌, ℕ, ◌+◌, ◌<◌, Bool, List, [], ◌∷◌, ◌++◌, map, length, get_or, refl, ap, ◌∙◌}
use Rattle.address.specs.Text.{Text}
use Rattle.email_policy.specs.Policy.{Policy}
use Rattle.audience.specs.Mail.{Mail}
use Rattle.audience.specs.Rules as audience
use Rattle.audience.specs.Due.{to_texts, cc_texts}
use Rattle.audience.specs.Answers.{somebody, sent}
use Rattle.mail.specs.declared.letter.Mail.{Mail as Letter}
use Rattle.mail.specs.declared.mailbox.Mailbox.{Mailbox}
use Rattle.mail.specs.Letters.{letter}
use Rattle.mail.specs.Marks.{marked}
use Rattle.mail.specs.Parts.{Short, text_in}
use Rattle.mail.specs.Rolls.{mailed}
use Rattle.grants.specs.declared.pass.Pass.{Pass}
use Rattle.grants.specs.declared.pass.Terms.{Terms}
use Rattle.grants.specs.Rules.{grant_by, terms_by, replying, keys_of}
use Rattle.grants.proofs.Meant.{meant_by, terms-meant}
use Rattle.recipients.specs.Choices.{listed_by, to_marks, cc_marks}
use Rattle.recipients.proofs.Mailings.{to_mailed, cc_mailed}
use Rattle.email_router.specs.declared.chosen.Recipients.{Recipients}
use Rattle.email_router.specs.Actions.{sent_to}
use Rattle.email_router.specs.Chosen.{Chosen, individuals}

-- the texts of a table, as its slice has them
pub texts_held : (ms table : List Mailbox) (ts : List Text) → ms ≡ table → map text_in table ≡ ts → map text_in ms ≡ ts
texts_held ms table ts e f = ap (map text_in) e ∙ f

-- mailboxes of short texts
pub short_texts : (ms : List Mailbox) (ts : List Text) → map text_in ms ≡ ts → ((k : ℕ) → length (get_or ts k []) < 65536) → Short ms
short_texts ms ts e s k = rw e (s k)

-- the marks that terms make, with the lists that are replied to and the cc texts, are those of what is granted
module _ (p : Policy) (q : Pass) (marks : List Bool) (keys : List Text) (known : keys ≡ keys_of p) (t : Terms) (lists : List Bool) (cc : List Text) (terms : t ≡ terms_by q marks p) (replied_to : lists ≡ replying q p.defaults marks p.lists) (added : cc ≡ (grant_by q marks p).cc) where
  meant_is : meant_by keys t lists cc ≡ grant_by q marks p
  meant_is = ap (λ ks. meant_by ks t lists cc) known ∙ terms-meant q marks p t lists cc terms replied_to added

  module _ (m : Mail) (b : Bool) (is : b ≡ individuals keys m (meant_by keys t lists cc)) where
    pub to_chosen : (tos : List Bool) → tos ≡ to_marks keys m (meant_by keys t lists cc) b → tos ≡ to_marks (keys_of p) m (grant_by q marks p) (individuals (keys_of p) m (grant_by q marks p))
    to_chosen tos e = e ∙ ap (to_marks keys m (meant_by keys t lists cc)) is ∙ (λ i. to_marks (known i) m (meant_is i) (individuals (known i) m (meant_is i)))

    pub cc_chosen : (ccs : List Bool) (taken all : List Text) → ccs ≡ cc_marks keys m (meant_by keys t lists cc) b taken → taken ≡ all → ccs ≡ cc_marks (keys_of p) m (grant_by q marks p) (individuals (keys_of p) m (grant_by q marks p)) all
    cc_chosen ccs taken all e same =
        e
        ∙ ap (λ b. cc_marks keys m (meant_by keys t lists cc) b taken) is
        ∙ (λ i. cc_marks (known i) m (meant_is i) (individuals (known i) m (meant_is i)) (same i))

module _ (keys : List Text) (m : Letter) (g : audience.Grant) (r : Recipients) where
  pub sent_is : Chosen m keys g r → sent_to r m ≡ sent (listed_by keys) (letter m) g
  unfolding sent_to
  sent_is c =
      let b = individuals keys (letter m) g in
      let to : mailed r.to m r.added ≡ to_texts (listed_by keys) (letter m) g = to_mailed keys m b g r.to r.added refl c.to_start c.to_takes in
      let cc : mailed r.cc m r.added ≡ cc_texts (listed_by keys) (letter m) g = cc_mailed keys m b g r.cc r.added c.added refl c.cc_start c.cc_takes in
      (λ i. somebody (to i ++ cc i) (record { to = to i; cc = cc i }))

  -- recipients that are read from tables
  module _ (tos ccs : List Bool) (added : List Mailbox)
      (is_to : tos ≡ to_marks keys (letter m) g (individuals keys (letter m) g))
      (is_cc : ccs ≡ cc_marks keys (letter m) g (individuals keys (letter m) g) (marked tos ((letter m).author ∷ (letter m).to)))
      (is_added : map text_in added ≡ g.cc) where
    pub tables_sent : r.to.start ≡ 0 → r.to.takes.now ≡ tos → r.cc.start ≡ 1 + m.to → r.cc.takes.now ≡ ccs → r.added.entries.now ≡ added → sent_to r m ≡ sent (listed_by keys) (letter m) g
    tables_sent to_start to cc_start ccs' all = sent_is (record {
      to_start = to_start;
      to_takes = to ∙ is_to;
      cc_start = cc_start;
      cc_takes = ccs' ∙ is_cc ∙ ap (λ ms. cc_marks keys (letter m) g (individuals keys (letter m) g) (marked ms ((letter m).author ∷ (letter m).to))) is_to;
      added = ap (map text_in) all ∙ is_added;
    })
