-- A text is its lines, and a line its words.
use Rattle.std.proofs.Common.{◌≡◌, ℕ, zero, suc, ◌+◌, ◌-◌, ◌<◌, List, [], ◌∷◌, ◌++◌, length, take, drop, get_or, map, Bor, ◌⊎◌, ◌≤◌, Bool, true, false, ◌&&◌, not, cond, eqb, ltb, None, Result, Ok, Err, inl, inr, refl, sym, ap, subst, ◌∙◌, arith, append_assoc, length-drop}
use Rattle.std.specs.Prelude.{IfOk, MatchResult}
use Rattle.std.specs.List.{AllByRecursion, flat_map, join_with_byte, list_all, onto_first, position, position_or_len}
use Rattle.std.proofs.lemmas.Bool.{and_parts, and_from, cases_Bool, not-true, eqb-true, eq-eqb, ltb-false}
use Rattle.text_words.specs.declared.lines.LineWhy.{LineWhy}
use Rattle.text_words.specs.declared.lines.LineWhy.TheVariants as why
use Rattle.std.proofs.Math.Seq.{take-length}
use Rattle.std.proofs.lemmas.Bool.Decides.{nat_tests}
use Rattle.std.proofs.lemmas.List.{length-take-le, map_push}
use Rattle.std.proofs.lemmas.List.Folds.{list_all_at}
use Rattle.std.proofs.lemmas.List.Splits.{join_with_byte-slice_split, slice_split-cons_yes, slice_split-cons_no}
use Rattle.text_words.proofs.Bytes.{list_all-weaker}
use Rattle.text_words.specs.Lines.{Row, onto_row, rows_of, row_bytes, is_line_byte, has_bytes, words_in, words_at, is_word_byte, IsWord, AreWords, line_of, words_row, text_of, ReadsWords}
use Rattle.text_words.proofs.Splits.{lacks, lacks_from_none, none_parts, split_alone, split_joined, split_all, IsParts, join_all, each, each_true, true_each}

-- a byte in front of the rows
onto_bytes : (b : ℕ) (rows : List Row) → flat_map row_bytes (onto_row b rows) ≡ b ∷ flat_map row_bytes rows
onto_bytes b [] = refl
onto_bytes b (row ∷ rows) = ends row.ended where
  ends : (e : Bool) → (cond e ((b ∷ row.body) ++ 10 ∷ []) (b ∷ row.body)) ++ flat_map row_bytes rows ≡ b ∷ (cond e (row.body ++ 10 ∷ []) row.body ++ flat_map row_bytes rows)
  ends true = refl
  ends false = refl

-- the lines of a text, one after the other, are the text
pub rows_joined : (text : List ℕ) → flat_map row_bytes (rows_of text) ≡ text
rows_joined [] = refl
rows_joined (b ∷ bs) =
    let rest = rows_joined bs in
    elim (cases_Bool (eqb b 10)) [
      | inl e ↦ rw e (rw rest (ap (λ (c : ℕ). c ∷ bs) (sym (eqb-true b 10 e))))
      | inr e ↦ rw e (onto_bytes b (rows_of bs) ∙ ap (λ (r : List ℕ). b ∷ r) rest)
    ]

pub rows_front : (line rest : List ℕ) → lacks 10 line ≡ true → rows_of (line ++ 10 ∷ rest) ≡ record { body = line; ended = true } ∷ rows_of rest
rows_front [] rest h = refl
rows_front (b ∷ line) rest h =
    let parts = and_parts (not (eqb b 10)) (lacks 10 line) h in
    let other = not-true (eqb b 10) parts.0 in
    rw other (ap (onto_row b) (rows_front line rest parts.1))

pub rows_alone : (b : ℕ) (line : List ℕ) → lacks 10 (b ∷ line) ≡ true → rows_of (b ∷ line) ≡ record { body = b ∷ line; ended = false } ∷ []
rows_alone b [] h =
    let other = not-true (eqb b 10) (and_parts (not (eqb b 10)) true h).0 in
    rw other refl
rows_alone b (c ∷ line) h =
    let parts = and_parts (not (eqb b 10)) (lacks 10 (c ∷ line)) h in
    let other = not-true (eqb b 10) parts.0 in
    rw other (ap (onto_row b) (rows_alone c line parts.1))

-- the first line ends at the first line feed
pub rows_split : (text : List ℕ) (i : ℕ) → i < length text → get_or text i 0 ≡ 10 → ((k : ℕ) → k < i → eqb (get_or text k 0) 10 ≡ false)
    → rows_of text ≡ record { body = take i text; ended = true } ∷ rows_of (drop (suc i) text)
rows_split [] i lt here before = absurd (omega arith)
rows_split (b ∷ bs) zero lt here before = let ten : eqb b 10 ≡ true = eq-eqb b 10 here in rw ten refl
rows_split (b ∷ bs) (suc i) lt here before =
    let other : eqb b 10 ≡ false = before 0 (omega arith) in
    rw other (ap (onto_row b) (rows_split bs i (omega arith) here (λ k below. before (suc k) (omega arith))))

-- a text with no line feed is one line
pub rows_none : (text : List ℕ) → 0 < length text → position (λ b. eqb b 10) text ≡ None → rows_of text ≡ record { body = text; ended = false } ∷ []
rows_none [] lt h = absurd (omega arith)
rows_none (b ∷ bs) lt h =
    let past = none_parts (position_or_len (λ c. eqb c 10) (b ∷ bs)) (ltb (position_or_len (λ c. eqb c 10) (b ∷ bs)) (length (b ∷ bs))) h in
    rows_alone b bs (lacks_from_none 10 (b ∷ bs) (ltb-false _ _ past))

three : (a b c : Bool) (x words : List (List ℕ)) → cond (not a) (Err why.Byte) (cond (not b) (Err why.Space) (cond (not c) (Err why.End) (Ok x))) ≡ Ok words → (a ≡ true) × (b ≡ true) × (c ≡ true) × (x ≡ words)
three true true true x words e = (refl, refl, refl, cc)
three true true false x words e = absurd cc
three true false c x words e = absurd cc
three false b c x words e = absurd cc

row_is : (row : Row) (body : List ℕ) → row.body ≡ body → row.ended ≡ true → row ≡ record { body = body; ended = true }
row_is row body same ended = ap (λ (b : List ℕ). record { body = b; ended = row.ended }) same ∙ ap (λ (e : Bool). record { body = body; ended = e }) ended

word_both : (b : ℕ) → (is_line_byte b && not (eqb b 32)) ≡ true → is_word_byte b ≡ true
word_both b h = grind (arith, nat_tests, h)

are_words : (parts : List (List ℕ)) → IsParts is_line_byte 32 parts → list_all has_bytes parts ≡ true → AreWords parts
are_words [] h some = h
are_words (part ∷ parts) h some = both (part ∷ parts) h (each_true has_bytes (part ∷ parts) some) where
  both : (ws : List (List ℕ)) → AllByRecursion (λ w. list_all (λ b. is_line_byte b && not (eqb b 32)) w ≡ true) ws → AllByRecursion (λ w. has_bytes w ≡ true) ws → AllByRecursion IsWord ws
  both [] g s = tt
  both (w ∷ ws) g s = (and_from _ _ s.0 (list_all-weaker (λ b. is_line_byte b && not (eqb b 32)) is_word_byte word_both w g.0), both ws g.1 s.1)

-- the words that are read are the line
pub words_are : (row : Row) (words : List (List ℕ)) → words_at row ≡ Ok words → AreWords words × (row ≡ words_row words)
unfolding words_at
words_are row words e =
    let t = three (list_all is_line_byte row.body) (list_all has_bytes (words_in row.body)) row.ended (words_in row.body) words e in
    let body : row.body ≡ join_with_byte 32 words = sym (join_with_byte-slice_split 32 row.body) ∙ ap (join_with_byte 32) t.3 in
    (subst AreWords t.3 (are_words (words_in row.body) (split_all is_line_byte 32 row.body t.0) t.1), row_is row (join_with_byte 32 words) body t.2)

-- a line that is read is its words in the text
pub words_bytes : (row : Row) (words : List (List ℕ)) → words_at row ≡ Ok words → row_bytes row ≡ line_of words
words_bytes row words e = ap row_bytes (words_are row words e).1

word_parts : (word : List ℕ) → (has_bytes word && list_all is_word_byte word) ≡ true → (has_bytes word ≡ true) × (list_all is_word_byte word ≡ true)
word_parts word h = and_parts (has_bytes word) (list_all is_word_byte word) h

line_byte : (b : ℕ) → is_word_byte b ≡ true → is_line_byte b ≡ true
line_byte b h = grind (arith, nat_tests, h)

no_space : (b : ℕ) → is_word_byte b ≡ true → not (eqb b 32) ≡ true
no_space b h = grind (arith, nat_tests, h)

no_feed : (b : ℕ) → is_line_byte b ≡ true → not (eqb b 10) ≡ true
no_feed b h = grind (arith, nat_tests, h)

line_bytes : (words : List (List ℕ)) → AllByRecursion IsWord words → list_all is_line_byte (join_with_byte 32 words) ≡ true
line_bytes words h =
    join_all is_line_byte 32 refl words
    (each {P = IsWord} {Q = λ word. list_all is_line_byte word ≡ true} (λ word is. list_all-weaker is_word_byte is_line_byte line_byte word (word_parts word is).1) words h)

-- the words of a line are read
pub words_again : (words : List (List ℕ)) → AreWords words → words_at (words_row words) ≡ Ok words
unfolding words_at
words_again [] h = absurd h
words_again (word ∷ words) h =
    let bytes = line_bytes (word ∷ words) h in
    let split = split_joined 32 word words (each {P = IsWord} {Q = λ w. lacks 32 w ≡ true} (λ w is. list_all-weaker is_word_byte (λ b. not (eqb b 32)) no_space w (word_parts w is).1) (word ∷ words) h) in
    let some = true_each has_bytes (word ∷ words) (each {P = IsWord} {Q = λ w. has_bytes w ≡ true} (λ w is. (word_parts w is).0) (word ∷ words) h) in
    rw (bytes, split, some) refl

take_whole : (bs : List ℕ) (n : ℕ) → n ≡ length bs → take n bs ≡ bs
take_whole bs n e = rw e (take-length bs)

rest_is : (text : List ℕ) (n : ℕ) → take (length text - n) (drop n text) ≡ drop n text
rest_is text n = take_whole (drop n text) (length text - n) (sym (length-drop n text))

not-false : (t : Bool) → not t ≡ false → t ≡ true
not-false true e = refl
not-false false e = absurd cc

-- the first word of a line ends at its first space, and what stands before it is no reason to refuse the line
pub word_split : (bs : List ℕ) (i : ℕ) → i < length bs → get_or bs i 0 ≡ 32 → ((k : ℕ) → k < i → not (is_word_byte (get_or bs k 0)) ≡ false)
    → (words_in bs ≡ take i bs ∷ words_in (drop (suc i) bs)) × (list_all is_line_byte bs ≡ list_all is_line_byte (drop (suc i) bs))
word_split [] i lt here before = absurd (omega arith)
word_split (b ∷ bs) zero lt here before =
    let space : is_line_byte b ≡ true = ap is_line_byte here in
    (slice_split-cons_yes (λ c. eqb c 32) b bs (eq-eqb b 32 here), ap (λ (t : Bool). t && list_all is_line_byte bs) space)
word_split (b ∷ bs) (suc i) lt here before =
    let word : is_word_byte b ≡ true = not-false (is_word_byte b) (before 0 (omega arith)) in
    let rest = word_split bs i (omega arith) here (λ k below. before (suc k) (omega arith)) in
    let line : is_line_byte b ≡ true = line_byte b word in
    let other : eqb b 32 ≡ false = not-true (eqb b 32) (no_space b word) in
    (slice_split-cons_no (λ c. eqb c 32) b bs other ∙ ap (onto_first b) rest.0, ap (λ (t : Bool). t && list_all is_line_byte bs) line ∙ rest.1)

words_from_none : (bs : List ℕ) → length bs ≤ position_or_len (λ b. not (is_word_byte b)) bs → list_all is_word_byte bs ≡ true
words_from_none [] h = refl
words_from_none (b ∷ bs) h =
    elim (cases_Bool (is_word_byte b)) [
      | inl e ↦
          let rest : length bs ≤ position_or_len (λ c. not (is_word_byte c)) bs = omega (arith, rw e at h) in
          and_from _ _ e (words_from_none bs rest)
      | inr e ↦ absurd (omega (arith, rw e at h))
    ]

-- where each byte stands in a word, the line is one word
pub one_word : (bs : List ℕ) → position (λ b. not (is_word_byte b)) bs ≡ None → (words_in bs ≡ bs ∷ []) × (list_all is_line_byte bs ≡ true)
one_word bs e =
    let n : ℕ = position_or_len (λ b. not (is_word_byte b)) bs in
    let word = words_from_none bs (ltb-false n (length bs) (none_parts n (ltb n (length bs)) e)) in
    (split_alone 32 bs (list_all-weaker is_word_byte (λ b. not (eqb b 32)) no_space bs word), list_all-weaker is_word_byte is_line_byte line_byte bs word)

bad_byte : (b : ℕ) → not (is_word_byte b) ≡ true → (b ≡ 32 → ⊥) → is_line_byte b ≡ false
bad_byte b h other = grind (arith, nat_tests, h)

-- a byte that stands in no word, and is no space
pub bad_line : (bs : List ℕ) (i : ℕ) → i < length bs → not (is_word_byte (get_or bs i 0)) ≡ true → (get_or bs i 0 ≡ 32 → ⊥) → list_all is_line_byte bs ≡ false
bad_line bs i lt h other = list_all_at is_line_byte bs i 0 lt (bad_byte (get_or bs i 0) h other)

-- one more word, of those that are left
pub word_put : (before now : List (Bor (List ℕ))) (word : Bor (List ℕ)) (rest : List ℕ) (i : ℕ) (whole : List (List ℕ))
    → words_in rest ≡ take i rest ∷ words_in (drop (suc i) rest) → word.now ≡ take i rest → now ≡ before ++ word ∷ []
    → map (λ w. w.now) before ++ words_in rest ≡ whole
    → map (λ w. w.now) now ++ words_in (take (length rest - (i + 1)) (drop (i + 1) rest)) ≡ whole
word_put before now word rest i whole at is put so =
    let next : suc i ≡ i + 1 = omega arith in
    let cut : drop (suc i) rest ≡ take (length rest - (i + 1)) (drop (i + 1) rest) = ap (λ (n : ℕ). drop n rest) next ∙ sym (rest_is rest (i + 1)) in
    let after : List (List ℕ) = words_in (take (length rest - (i + 1)) (drop (i + 1) rest)) in
    let fronts : List (List ℕ) = map (λ (w : Bor (List ℕ)). w.now) before in
    ap (λ (ws : List (Bor (List ℕ))). map (λ (w : Bor (List ℕ)). w.now) ws ++ after) put
    ∙ ap (λ (ws : List (List ℕ)). ws ++ after) (map_push (λ (w : Bor (List ℕ)). w.now) before word)
    ∙ append_assoc fronts (word.now ∷ []) after
    ∙ ap (λ (w : List ℕ). fronts ++ w ∷ after) is
    ∙ ap (λ (r : List ℕ). fronts ++ take i rest ∷ words_in r) (sym cut)
    ∙ ap (λ (ws : List (List ℕ)). fronts ++ ws) (sym at)
    ∙ so

-- the bytes that are left decide
pub bytes_left : (rest body : List ℕ) (i : ℕ) → list_all is_line_byte rest ≡ list_all is_line_byte (drop (suc i) rest) → list_all is_line_byte body ≡ list_all is_line_byte rest
    → list_all is_line_byte body ≡ list_all is_line_byte (take (length rest - (i + 1)) (drop (i + 1) rest))
bytes_left rest body i step so =
    let next : suc i ≡ i + 1 = omega arith in
    let cut : drop (suc i) rest ≡ take (length rest - (i + 1)) (drop (i + 1) rest) = ap (λ (n : ℕ). drop n rest) next ∙ sym (rest_is rest (i + 1)) in
    so ∙ step ∙ ap (list_all is_line_byte) cut

-- the last word
pub last_word_put : (before now : List (Bor (List ℕ))) (word : Bor (List ℕ)) (whole : List (List ℕ))
    → words_in word.now ≡ word.now ∷ [] → now ≡ before ++ word ∷ []
    → map (λ w. w.now) before ++ words_in word.now ≡ whole
    → map (λ w. w.now) now ≡ whole
last_word_put before now word whole at put so =
    let fronts : List (List ℕ) = map (λ (w : Bor (List ℕ)). w.now) before in
    ap (λ (ws : List (Bor (List ℕ))). map (λ (w : Bor (List ℕ)). w.now) ws) put
    ∙ map_push (λ (w : Bor (List ℕ)). w.now) before word
    ∙ ap (λ (ws : List (List ℕ)). fronts ++ ws) (sym at)
    ∙ so

and_again : (a b c : Bool) → (a && (b && c)) ≡ ((a && b) && c)
and_again true b c = refl
and_again false b c = refl

-- the words so far have bytes, and those that are left decide
pub full_left : (whole full : Bool) (rest : List ℕ) (i : ℕ) → i < length rest → words_in rest ≡ take i rest ∷ words_in (drop (suc i) rest)
    → whole ≡ (full && list_all has_bytes (words_in rest))
    → whole ≡ ((full && ltb 0 i) && list_all has_bytes (words_in (take (length rest - (i + 1)) (drop (i + 1) rest))))
full_left whole full rest i lt at so =
    let next : suc i ≡ i + 1 = omega arith in
    let cut : drop (suc i) rest ≡ take (length rest - (i + 1)) (drop (i + 1) rest) = ap (λ (n : ℕ). drop n rest) next ∙ sym (rest_is rest (i + 1)) in
    let after : Bool = list_all has_bytes (words_in (take (length rest - (i + 1)) (drop (i + 1) rest))) in
    let len : length (take i rest) ≡ i = length-take-le i rest (omega arith) in
    so ∙ ap (λ (ws : List (List ℕ)). full && list_all has_bytes ws) at
    ∙ ap (λ (r : List ℕ). full && (has_bytes (take i rest) && list_all has_bytes (words_in r))) cut
    ∙ ap (λ (n : ℕ). full && (ltb 0 n && after)) len
    ∙ and_again full (ltb 0 i) after

and-true : (b : Bool) → (b && true) ≡ b
and-true true = refl
and-true false = refl

not-empty : (n : ℕ) → not (eqb n 0) ≡ ltb 0 n
not-empty n = grind (arith, nat_tests)

-- the last word decides
pub full_last : (whole full empty : Bool) (rest : List ℕ) → empty ≡ eqb (length rest) 0 → words_in rest ≡ rest ∷ [] → whole ≡ (full && list_all has_bytes (words_in rest))
    → (full && not empty) ≡ whole
full_last whole full empty rest is at so =
    ap (λ (b : Bool). full && not b) is ∙ ap (λ (b : Bool). full && b) (not-empty (length rest))
    ∙ sym (so ∙ ap (λ (ws : List (List ℕ)). full && list_all has_bytes ws) at ∙ ap (λ (b : Bool). full && b) (and-true (has_bytes rest)))

-- why words were not split
pub split_refused : (row : Row) (w : LineWhy) → (w ≡ why.Memory) ⊎ ((w ≡ why.Byte) × (list_all is_line_byte row.body ≡ false)) → ReadsWords w (words_at row)
unfolding words_at
split_refused row w (inl memory) = rw memory tt
split_refused row w (inr byte) = let bad = byte.1 in rw byte.0 (rw bad refl)

feedless : (words : List (List ℕ)) → AreWords words → lacks 10 (join_with_byte 32 words) ≡ true
feedless [] h = absurd h
feedless (word ∷ words) h = list_all-weaker is_line_byte (λ b. not (eqb b 10)) no_feed (join_with_byte 32 (word ∷ words)) (line_bytes (word ∷ words) h)

-- the lines of words are the lines of their text
pub rows_again : (lines : List (List (List ℕ))) → AllByRecursion AreWords lines → rows_of (text_of lines) ≡ map words_row lines
rows_again [] h = refl
rows_again (words ∷ lines) h =
    let regrouped : text_of (words ∷ lines) ≡ join_with_byte 32 words ++ 10 ∷ text_of lines = append_assoc (join_with_byte 32 words) (10 ∷ []) (text_of lines) in
    ap rows_of regrouped ∙ rows_front (join_with_byte 32 words) (text_of lines) (feedless words h.0) ∙ ap (λ (rows : List Row). words_row words ∷ rows) (rows_again lines h.1)

-- the same, as a slice is cut
pub cut_split : (text : List ℕ) (i : ℕ) → i < length text → get_or text i 0 ≡ 10 → ((k : ℕ) → k < i → eqb (get_or text k 0) 10 ≡ false)
    → rows_of text ≡ record { body = take i text; ended = true } ∷ rows_of (take (length text - (i + 1)) (drop (i + 1) text))
cut_split text i lt here before =
    let next : suc i ≡ i + 1 = omega arith in
    let rest : drop (suc i) text ≡ take (length text - (i + 1)) (drop (i + 1) text) = ap (λ (n : ℕ). drop n text) next ∙ sym (rest_is text (i + 1)) in
    rows_split text i lt here before ∙ ap (λ (r : List ℕ). record { body = take i text; ended = true } ∷ rows_of r) rest

drop_whole : (text : List ℕ) → drop (length text) text ≡ []
drop_whole [] = refl
drop_whole (b ∷ bs) = drop_whole bs

pub cut_none : (text : List ℕ) → 0 < length text → position (λ b. eqb b 10) text ≡ None
    → rows_of text ≡ record { body = text; ended = false } ∷ rows_of (take (length text - length text) (drop (length text) text))
cut_none text lt h =
    let rest : take (length text - length text) (drop (length text) text) ≡ [] = rest_is text (length text) ∙ drop_whole text in
    rows_none text lt h ∙ ap (λ (r : List ℕ). record { body = text; ended = false } ∷ rows_of r) (sym rest)

-- what a function that reads words returned, seen by a view
pub words_found : {V : Type 0} (view : V → List (List ℕ)) (row : Row) (r : Result V LineWhy) → MatchResult r (λ v. words_at row ≡ Ok (view v)) (λ w. ReadsWords w (words_at row)) → IfOk r (λ v. AreWords (view v) × (row ≡ words_row (view v)))
words_found view row (Ok v) h = words_are row (view v) h
words_found view row (Err e) h = tt

memory : (e : LineWhy) (words : List (List ℕ)) → ReadsWords e (Ok words) → e ≡ why.Memory
memory why.Byte words h = absurd cc
memory why.Space words h = absurd cc
memory why.End words h = absurd cc
memory why.Memory words h = refl

ok_words : (a b : List (List ℕ)) (read : Result (List (List ℕ)) LineWhy) → read ≡ Ok a → read ≡ Ok b → a ≡ b
ok_words a b read p q = cc

pub words_only : {V : Type 0} (view : V → List (List ℕ)) (row : Row) (r : Result V LineWhy) → MatchResult r (λ v. words_at row ≡ Ok (view v)) (λ w. ReadsWords w (words_at row))
    → (words : List (List ℕ)) → AreWords words → row ≡ words_row words → MatchResult r (λ v. view v ≡ words) (λ w. w ≡ why.Memory)
words_only view row (Ok v) h words are is = ok_words (view v) words (words_at row) h (ap words_at is ∙ words_again words are)
words_only view row (Err e) h words are is = memory e words (subst (ReadsWords e) (ap words_at is ∙ words_again words are) h)
