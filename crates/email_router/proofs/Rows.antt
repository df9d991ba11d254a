-- Texts by their places, packed one after another.
use Rattle.std.proofs.Common.{◌≡◌, ℕ, ◌+◌, ◌*◌, ◌<◌, ◌≤◌, Bool, true, ◌&&◌, ltb, List, [], ◌∷◌, ◌++◌, map, length, get_or, take, drop, Some, None, Option, sym, refl, ap, ◌∙◌, arith}
use Rattle.std.specs.Option.{option_to_list}
use Rattle.std.proofs.lemmas.List.{append-nil, map-append, length-append, length-map, take-append-drop, take_more}
use Rattle.std.proofs.lemmas.Bool.{and_from, le-leb, lt-ltb, cond-true}
use Rattle.address.specs.Text.{Text}
use Rattle.roll.specs.Packing.{word, pack_text, pack_texts}
use Rattle.email_policy.specs.Packing.{pack_part}
use Rattle.roll.specs.Ends.{there}
use Rattle.roll.specs.Written.{written, put, put_end}
use Rattle.roll.proofs.Writes.{written_none, written-append, Wrote, wrote_more}
use Rattle.roll.proofs.Sized.{pack_texts_none, pack_texts-append, pack_texts_push}
use Rattle.email_router.specs.declared.action.Size.{Size}
use Rattle.email_router.specs.Actions.{size_of}

abbrev pub sized : ℕ → ℕ → Size
sized n b = record { texts = n; bytes = b }

module _ (text : ℕ → Text) where
  -- the packed texts at these places
  abbrev pub rows : List ℕ → List ℕ
  rows places = pack_texts (map text places)

  pub rows_push : (places : List ℕ) (x : ℕ) → rows (places ++ x ∷ []) ≡ rows places ++ pack_text (text x)
  rows_push places x = ap pack_texts (map-append text places (x ∷ [])) ∙ pack_texts_push (map text places) (text x)

  pub rows_more : (places : List ℕ) (i d : ℕ) → i < length places → rows (take (i + 1) places) ≡ rows (take i places) ++ pack_text (text (get_or places i d))
  rows_more places i d h = ap rows (take_more places i d h) ∙ rows_push (take i places) (get_or places i d)

  rows_front : (places : List ℕ) (i : ℕ) → length (rows (take i places)) ≤ length (rows places)
  rows_front places i =
      let e = ap (λ l. length (rows l)) (take-append-drop i places) in
      let f = ap length (ap pack_texts (map-append text (take i places) (drop i places)) ∙ pack_texts-append (map text (take i places)) (map text (drop i places))) in
      omega (arith, length-append (rows (take i places)) (rows (drop i places)))

  -- room for one text more, where there is room for all
  pub rows_room : (places : List ℕ) (i d at end n : ℕ) → i < length places → end ≡ at + length (rows (take i places)) → at + length (rows places) ≤ n → end + length (pack_text (text (get_or places i d))) ≤ n
  rows_room places i d at end n h e room =
      let a = ap length (rows_more places i d h) in
      let b = length-append (rows (take i places)) (pack_text (text (get_or places i d))) in
      let f = rows_front places (i + 1) in
      omega arith

  -- these places have been measured, of the first i
  pub record Measured (places : List ℕ) (i n b : ℕ) : Type 0 where
    pub texts : n ≡ length places
    pub bytes : b ≡ length (rows places)
    pub few : n ≤ i
    pub small : b ≤ 65537 * i

  pub measured_none : (places : List ℕ) → [] ≡ places → Measured places 0 0 0
  measured_none places e =
      rw (← e) record { texts = refl; bytes = sym (ap length pack_texts_none); few = omega arith; small = omega arith }

  module _ {places : List ℕ} {i n b : ℕ} (m : Measured places i n b) (more : List ℕ) (o : Option ℕ) (is : more ≡ places ++ option_to_list o) where
    pub measured_some : (x k : ℕ) → Some x ≡ o → k ≡ length (text x) → length (text x) < 65536 → Measured more (i + 1) (n + 1) (b + (2 + k))
    measured_some x k here e short =
        let eq : more ≡ places ++ x ∷ [] = is ∙ ap (λ q. places ++ option_to_list q) (sym here) in
        let l = length-append places (x ∷ []) in
        let r = ap length (rows_push places x) in
        let s = length-append (rows places) (pack_text (text x)) in
        let mt = m.texts in
        let mb = m.bytes in
        let mf = m.few in
        let ms = m.small in
        rw eq record { texts = omega arith; bytes = omega arith; few = omega arith; small = omega arith }

    pub measured_skip : None ≡ o → Measured more (i + 1) n b
    measured_skip here =
        let eq : more ≡ places = is ∙ ap (λ q. places ++ option_to_list q) (sym here) ∙ append-nil places in
        let mf = m.few in
        let ms = m.small in
        rw eq record { texts = m.texts; bytes = m.bytes; few = omega arith; small = omega arith }

  pub size_measured : {places : List ℕ} {i n b : ℕ} → Measured places i n b → sized n b ≡ size_of (map text places)
  size_measured {places} m = let l = length-map places text in let t = m.texts in let e = m.bytes in cc

  -- the roll of these places
  pub part_none : (places : List ℕ) → length places ≡ 0 → pack_part (map text places) ≡ []
  part_none [] e = refl
  part_none (x ∷ xs) e = absurd (omega arith)

  pub part_some : (places : List ℕ) → 0 < length places → pack_part (map text places) ≡ word (length places) ++ rows places
  part_some [] h = absurd (omega arith)
  part_some (x ∷ xs) h = ap (λ n. word n ++ rows (x ∷ xs)) (length-map (x ∷ xs) text)

-- a row that may be written and fits is written
module _ (may : Bool) (d : List ℕ) (i : ℕ) (row : List ℕ) (yes : may ≡ true) (room : i + length row ≤ length d) where
  fits : (may && there d i (length row)) ≡ true
  fits = and_from _ _ yes (le-leb _ _ room)

  pub put_written : put may d i row ≡ written d i row
  put_written = cond-true _ _ _ fits

  pub put_ends : put_end may d i row ≡ Some (i + length row)
  put_ends = cond-true _ _ _ fits

  pub put_next : (e : ℕ) → Some e ≡ put_end may d i row → e ≡ i + length row
  put_next e h = let q = put_ends in cc

  pub put_accepted : None ≡ put_end may d i row → ⊥
  put_accepted h = let q = put_ends in let z : ◌≡◌ {A = ℕ} 0 1 = cc in omega arith

-- the next text of these places is written, as there is room for all
module _ (text : ℕ → Text) (short : (i : ℕ) → length (text i) < 65536) (places : List ℕ) (i : ℕ) (start tray : List ℕ) (at end : ℕ) (w : Wrote (rows text (take i places)) start tray at end) (h : i < length places) (room : at + length (rows text places) ≤ length tray) (t tray' : List ℕ) (is : t ≡ text (get_or places i 0)) (put_is : tray' ≡ put (ltb (length t) 65536) tray end (pack_text t)) where
  may_put : ltb (length t) 65536 ≡ true
  may_put = lt-ltb (length t) 65536 (let l = ap length is in omega (arith, short (get_or places i 0)))

  row_room : end + length (pack_text t) ≤ length tray
  row_room = rw is (rows_room text places i 0 at end (length tray) h w.ends room)

  pub row_accepted : None ≡ put_end (ltb (length t) 65536) tray end (pack_text t) → ⊥
  row_accepted = put_accepted (ltb (length t) 65536) tray end (pack_text t) may_put row_room

  pub row_wrote : (e : ℕ) → Some e ≡ put_end (ltb (length t) 65536) tray end (pack_text t) → Wrote (rows text (take (i + 1) places)) start tray' at e
  row_wrote e s =
      wrote_more w (rows text (take (i + 1) places)) (pack_text t) tray' e
      (rows_more text places i 0 h ∙ ap (λ u. rows text (take i places) ++ pack_text u) (sym is))
      (put_is ∙ put_written (ltb (length t) 65536) tray end (pack_text t) may_put row_room)
      (put_next (ltb (length t) 65536) tray end (pack_text t) may_put row_room e s)

-- a roll is written: its count, and then its texts
module _ (text : ℕ → Text) (places : List ℕ) (few : length places ≤ 9249) (d : List ℕ) (at k : ℕ) (counted : k ≡ length places) (room : at + length (pack_part (map text places)) ≤ length d) where
  pub part_left_out : k ≡ 0 → (at ≡ at + length (pack_part (map text places))) × (d ≡ written d at (pack_part (map text places)))
  part_left_out none =
      let e = part_none text places (omega arith) in
      rw e (omega arith, written_none d at)

  module _ (some : 0 < k) where
    part_is : pack_part (map text places) ≡ word k ++ rows text places
    part_is = part_some text places (omega arith) ∙ ap (λ n. word n ++ rows text places) (sym counted)

    part_long : length (pack_part (map text places)) ≡ 2 + length (rows text places)
    part_long = ap length part_is ∙ length-append (word k) (rows text places)

    may_count : ltb k 65536 ≡ true
    may_count = lt-ltb k 65536 (omega arith)

    count_room : at + length (word k) ≤ length d
    count_room = omega (arith, part_long)

    pub count_accepted : None ≡ put_end (ltb k 65536) d at (word k) → ⊥
    count_accepted = put_accepted (ltb k 65536) d at (word k) may_count count_room

    module _ (first : ℕ) (next : Some first ≡ put_end (ltb k 65536) d at (word k)) where
      count_end : first ≡ at + 2
      count_end = put_next (ltb k 65536) d at (word k) may_count count_room first next

      pub texts_room : first + length (rows text places) ≤ length d
      texts_room = omega (arith, part_long, count_end)

      pub part_wrote : (mid tray : List ℕ) (end : ℕ) → mid ≡ put (ltb k 65536) d at (word k) → end ≡ first + length (rows text places) → tray ≡ written mid first (rows text places) → (end ≡ at + length (pack_part (map text places))) × (tray ≡ written d at (pack_part (map text places)))
      part_wrote mid tray end counts ends holds = (
        omega (arith, part_long, count_end),
        holds
            ∙ ap (λ x. written x first (rows text places)) (counts ∙ put_written (ltb k 65536) d at (word k) may_count count_room)
            ∙ written-append (word k) (rows text places) d at first count_end
            ∙ ap (written d at) (sym part_is),
      )
