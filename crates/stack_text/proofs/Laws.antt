-- What is read is spelled so, and what is spelled so is read.
use Rattle.std.proofs.Common.{◌≡◌, ℕ, ◌+◌, ◌<◌, ◌≤◌, List, [], ◌∷◌, ◌++◌, length, map, codes, Bool, true, false, cond, ltb, Option, Some, None, Result, Ok, Err, refl, sym, ap, subst, ◌∙◌, arith}
use Rattle.std.specs.Fmt.{decimal}
use Rattle.std.specs.List.{AllByRecursion, flat_map}
use Rattle.std.specs.Str.{bytes_eq}
use Rattle.std.proofs.lemmas.Bool.{ltb-false, le-ltb}
use Rattle.std.proofs.lemmas.Slice.Eq.{bytes_eq-Decides}
use Rattle.text_words.specs.declared.lines.LineWhy.{LineWhy}
use Rattle.text_words.specs.Lines.{Row, row_bytes, rows_of, words_at, IsWord, AreWords, line_of, text_of, words_row}
use Rattle.text_words.specs.Words.{is_name, IsName}
use Rattle.text_words.specs.Numbers.{number_of}
use Rattle.text_words.proofs.LineLaws.{words_bytes, words_again, rows_joined, rows_again}
use Rattle.text_words.proofs.Spellings.{name_word, decimal_word}
use Rattle.text_words.proofs.NumberLaws.{number_is, number_again}
use Rattle.stack_text.specs.declared.stack.StackLine.{StackLine}
use Rattle.stack_text.specs.declared.stack.StackLine.TheVariants.{Page, File, Layer}
use Rattle.stack_text.specs.declared.stack.LayerKind.TheVariants.{Disk, Mirror, Upper}
use Rattle.stack_text.specs.declared.stack.UpperKind.{UpperKind}
use Rattle.stack_text.specs.declared.stack.UpperKind.TheVariants.{Coherency, Dfs, Vmm}
use Rattle.stack_text.specs.declared.why.StackWhy.{StackWhy}
use Rattle.stack_text.specs.declared.why.StackWhy.TheVariants as why
use Rattle.stack_text.specs.declared.why.Refused.{Refused}
use Rattle.stack_text.specs.declared.stack.StackText.{StackText}
use Rattle.stack_text.specs.Grammar.{line_words, HasNumber, IsStackLine, IsStack, spelling}
use Rattle.stack_text.specs.Why.{Tells}
use Rattle.stack_text.specs.Reading.{◌>>=◌, name_at, number_at, page_at, file_at, disk_at, mirror_at, upper_at, vmm_at, with_one, with_two, with_three, with_four, words_line, as_stack_why, line_at, in_line, lines_at, stack_at}

-- the value of a step that did not fail
bind_ok : {A B E : Type 0} (r : Result A E) (f : A → Result B E) (y : B) → (r >>= f) ≡ Ok y → (x : A) × (r ≡ Ok x) × (f x ≡ Ok y)
bind_ok (Ok x) f y e = (x, refl, e)
bind_ok (Err d) f y e = absurd cc

pub bind_again : {A B E : Type 0} (r : Result A E) (f : A → Result B E) (x : A) → r ≡ Ok x → (r >>= f) ≡ f x
bind_again r f x e = ap (λ s. s >>= f) e

abbrev done : {A : Type 0} → A → Result A StackWhy
done x = Ok x

ok_is : {A : Type 0} (x y : A) → done x ≡ done y → x ≡ y
ok_is x y e = cc

guarded : (b : Bool) (w o : List ℕ) → cond b (done w) (Err why.Name) ≡ done o → (b ≡ true) × (w ≡ o)
guarded true w o e = (refl, ok_is w o e)
guarded false w o e = absurd cc

name_is : (w o : List ℕ) → name_at w ≡ Ok o → IsName o × (w ≡ o)
unfolding name_at
name_is w o e = let h = guarded (is_name w) w o e in (subst IsName h.1 h.0, h.1)

by_value_is : (v : Option ℕ) (n : ℕ) → (elim v as (λ _. Result ℕ StackWhy) [ None ↦ Err why.Number | Some m ↦ Ok m ]) ≡ Ok n → v ≡ Some n
by_value_is None n e = absurd cc
by_value_is (Some m) n e = ap (λ (k : ℕ). Some k) (ok_is m n e)

number_at_is : (w : List ℕ) (n : ℕ) → number_at w ≡ Ok n → (n < 4294967296) × (w ≡ decimal n)
unfolding number_at
number_at_is w n e = let h = number_is 4294967296 n w (omega arith) (by_value_is (number_of w) n e) in (h.1, h.0)

name_again : (w : List ℕ) → IsName w → name_at w ≡ Ok w
unfolding name_at
name_again w h = ap (λ b. cond b (done w) (Err why.Name)) h

number_at_again : (n : ℕ) → n < 4294967296 → number_at (decimal n) ≡ Ok n
unfolding number_at
number_at_again n h = ap (λ (v : Option ℕ). elim v as (λ _. Result ℕ StackWhy) [ None ↦ Err why.Number | Some m ↦ Ok m ]) (number_again 4294967296 n (omega arith) h)

-- a line that is read from these words
abbrev IsLine : List (List ℕ) → StackLine → Type 0
IsLine words line = IsStackLine line × (words ≡ line_words line)

page_is : (size : List ℕ) (line : StackLine) → page_at size ≡ Ok line → IsLine (codes "page" ∷ size ∷ []) line
unfolding page_at
page_is size line e =
    let n = bind_ok (number_at size) (λ n. done (Page n)) line e in
    let h = number_at_is size n.0 n.1 in
    subst (IsLine (codes "page" ∷ size ∷ [])) (ok_is (Page n.0) line n.2) (h.0, ap (λ (w : List ℕ). codes "page" ∷ w ∷ []) h.1)

two_words : (v a a' b b' : List ℕ) → a ≡ a' → b ≡ b' → (v ∷ a ∷ b ∷ []) ≡ (v ∷ a' ∷ b' ∷ [])
two_words v a a' b b' p q = cc

three_words : (v a a' b b' c c' : List ℕ) → a ≡ a' → b ≡ b' → c ≡ c' → (v ∷ a ∷ b ∷ c ∷ []) ≡ (v ∷ a' ∷ b' ∷ c' ∷ [])
three_words v a a' b b' c c' p q r = cc

four_words : (v a a' b b' c c' d d' : List ℕ) → a ≡ a' → b ≡ b' → c ≡ c' → d ≡ d' → (v ∷ a ∷ b ∷ c ∷ d ∷ []) ≡ (v ∷ a' ∷ b' ∷ c' ∷ d' ∷ [])
four_words v a a' b b' c c' d d' p q r s = cc

file_is : (name pages : List ℕ) (line : StackLine) → file_at name pages ≡ Ok line → IsLine (codes "file" ∷ name ∷ pages ∷ []) line
unfolding file_at
file_is name pages line e =
    let own = bind_ok (name_at name) (λ own. number_at pages >>= λ n. done (File own n)) line e in
    let n = bind_ok (number_at pages) (λ n. done (File own.0 n)) line own.2 in
    let a = name_is name own.0 own.1 in
    let b = number_at_is pages n.0 n.1 in
    subst (IsLine (codes "file" ∷ name ∷ pages ∷ [])) (ok_is (File own.0 n.0) line n.2) ((a.0, b.0), two_words (codes "file") name own.0 pages (decimal n.0) a.1 b.1)

disk_is : (name machine : List ℕ) (line : StackLine) → disk_at name machine ≡ Ok line → IsLine (codes "disk" ∷ name ∷ machine ∷ []) line
unfolding disk_at
disk_is name machine line e =
    let own = bind_ok (name_at name) (λ own. name_at machine >>= λ at. done (Layer own at Disk)) line e in
    let at = bind_ok (name_at machine) (λ at. done (Layer own.0 at Disk)) line own.2 in
    let a = name_is name own.0 own.1 in
    let b = name_is machine at.0 at.1 in
    subst (IsLine (codes "disk" ∷ name ∷ machine ∷ [])) (ok_is (Layer own.0 at.0 Disk) line at.2) ((a.0, b.0, tt), two_words (codes "disk") name own.0 machine at.0 a.1 b.1)

mirror_is : (name machine left right : List ℕ) (line : StackLine) → mirror_at name machine left right ≡ Ok line → IsLine (codes "mirror" ∷ name ∷ machine ∷ left ∷ right ∷ []) line
unfolding mirror_at
mirror_is name machine left right line e =
    let own = bind_ok (name_at name) (λ own. name_at machine >>= λ at. name_at left >>= λ one. name_at right >>= λ other. done (Layer own at (Mirror one other))) line e in
    let at = bind_ok (name_at machine) (λ at. name_at left >>= λ one. name_at right >>= λ other. done (Layer own.0 at (Mirror one other))) line own.2 in
    let one = bind_ok (name_at left) (λ one. name_at right >>= λ other. done (Layer own.0 at.0 (Mirror one other))) line at.2 in
    let other = bind_ok (name_at right) (λ other. done (Layer own.0 at.0 (Mirror one.0 other))) line one.2 in
    let a = name_is name own.0 own.1 in
    let b = name_is machine at.0 at.1 in
    let c = name_is left one.0 one.1 in
    let d = name_is right other.0 other.1 in
    subst (IsLine (codes "mirror" ∷ name ∷ machine ∷ left ∷ right ∷ [])) (ok_is (Layer own.0 at.0 (Mirror one.0 other.0)) line other.2)
    ((a.0, b.0, (c.0, d.0)), four_words (codes "mirror") name own.0 machine at.0 left one.0 right other.0 a.1 b.1 c.1 d.1)

-- an upper layer, whose line has its verb and no more than its names
upper_is : (verb : List ℕ) (kind : UpperKind) → ((name machine below : List ℕ) → (verb ∷ name ∷ machine ∷ below ∷ []) ≡ line_words (Layer name machine (Upper kind below))) → HasNumber kind
    → (name machine below : List ℕ) (line : StackLine) → upper_at kind name machine below ≡ Ok line → IsLine (verb ∷ name ∷ machine ∷ below ∷ []) line
unfolding upper_at
upper_is verb kind words number name machine below line e =
    let own = bind_ok (name_at name) (λ own. name_at machine >>= λ at. name_at below >>= λ base. done (Layer own at (Upper kind base))) line e in
    let at = bind_ok (name_at machine) (λ at. name_at below >>= λ base. done (Layer own.0 at (Upper kind base))) line own.2 in
    let base = bind_ok (name_at below) (λ base. done (Layer own.0 at.0 (Upper kind base))) line at.2 in
    let a = name_is name own.0 own.1 in
    let b = name_is machine at.0 at.1 in
    let c = name_is below base.0 base.1 in
    subst (IsLine (verb ∷ name ∷ machine ∷ below ∷ [])) (ok_is (Layer own.0 at.0 (Upper kind base.0)) line base.2)
    ((a.0, b.0, (c.0, number)), three_words verb name own.0 machine at.0 below base.0 a.1 b.1 c.1 ∙ words own.0 at.0 base.0)

vmm_is : (name machine below frames : List ℕ) (line : StackLine) → vmm_at name machine below frames ≡ Ok line → IsLine (codes "vmm" ∷ name ∷ machine ∷ below ∷ frames ∷ []) line
unfolding vmm_at
vmm_is name machine below frames line e =
    let own = bind_ok (name_at name) (λ own. name_at machine >>= λ at. name_at below >>= λ base. number_at frames >>= λ n. done (Layer own at (Upper (Vmm n) base))) line e in
    let at = bind_ok (name_at machine) (λ at. name_at below >>= λ base. number_at frames >>= λ n. done (Layer own.0 at (Upper (Vmm n) base))) line own.2 in
    let base = bind_ok (name_at below) (λ base. number_at frames >>= λ n. done (Layer own.0 at.0 (Upper (Vmm n) base))) line at.2 in
    let n = bind_ok (number_at frames) (λ n. done (Layer own.0 at.0 (Upper (Vmm n) base.0))) line base.2 in
    let a = name_is name own.0 own.1 in
    let b = name_is machine at.0 at.1 in
    let c = name_is below base.0 base.1 in
    let d = number_at_is frames n.0 n.1 in
    subst (IsLine (codes "vmm" ∷ name ∷ machine ∷ below ∷ frames ∷ [])) (ok_is (Layer own.0 at.0 (Upper (Vmm n.0) base.0)) line n.2)
    ((a.0, b.0, (c.0, d.0)), four_words (codes "vmm") name own.0 machine at.0 below base.0 frames (decimal n.0) a.1 b.1 c.1 d.1)

-- so many words were there
one_is : (v : List ℕ) (read : List ℕ → Result StackLine StackWhy) → ((a : List ℕ) (line : StackLine) → read a ≡ Ok line → IsLine (v ∷ a ∷ []) line)
    → (words : List (List ℕ)) (line : StackLine) → with_one read words ≡ Ok line → IsLine (v ∷ words) line
one_is v read h [] line e = absurd cc
one_is v read h (a ∷ []) line e = h a line e
one_is v read h (a ∷ b ∷ words) line e = absurd cc

two_is : (v : List ℕ) (read : List ℕ → List ℕ → Result StackLine StackWhy) → ((a b : List ℕ) (line : StackLine) → read a b ≡ Ok line → IsLine (v ∷ a ∷ b ∷ []) line)
    → (words : List (List ℕ)) (line : StackLine) → with_two read words ≡ Ok line → IsLine (v ∷ words) line
two_is v read h [] line e = absurd cc
two_is v read h (a ∷ []) line e = absurd cc
two_is v read h (a ∷ b ∷ []) line e = h a b line e
two_is v read h (a ∷ b ∷ c ∷ words) line e = absurd cc

three_is : (v : List ℕ) (read : List ℕ → List ℕ → List ℕ → Result StackLine StackWhy) → ((a b c : List ℕ) (line : StackLine) → read a b c ≡ Ok line → IsLine (v ∷ a ∷ b ∷ c ∷ []) line)
    → (words : List (List ℕ)) (line : StackLine) → with_three read words ≡ Ok line → IsLine (v ∷ words) line
three_is v read h [] line e = absurd cc
three_is v read h (a ∷ []) line e = absurd cc
three_is v read h (a ∷ b ∷ []) line e = absurd cc
three_is v read h (a ∷ b ∷ c ∷ []) line e = h a b c line e
three_is v read h (a ∷ b ∷ c ∷ d ∷ words) line e = absurd cc

four_is : (v : List ℕ) (read : List ℕ → List ℕ → List ℕ → List ℕ → Result StackLine StackWhy) → ((a b c d : List ℕ) (line : StackLine) → read a b c d ≡ Ok line → IsLine (v ∷ a ∷ b ∷ c ∷ d ∷ []) line)
    → (words : List (List ℕ)) (line : StackLine) → with_four read words ≡ Ok line → IsLine (v ∷ words) line
four_is v read h [] line e = absurd cc
four_is v read h (a ∷ []) line e = absurd cc
four_is v read h (a ∷ b ∷ []) line e = absurd cc
four_is v read h (a ∷ b ∷ c ∷ []) line e = absurd cc
four_is v read h (a ∷ b ∷ c ∷ d ∷ []) line e = h a b c d line e
four_is v read h (a ∷ b ∷ c ∷ d ∷ f ∷ words) line e = absurd cc

-- a verb is this one, or the next is tried
verb_is : (verb own : List ℕ) (words : List (List ℕ)) (read rest : Result StackLine StackWhy) (line : StackLine)
    → (read ≡ Ok line → IsLine (own ∷ words) line) → (rest ≡ Ok line → IsLine (verb ∷ words) line) → cond (bytes_eq verb own) read rest ≡ Ok line → IsLine (verb ∷ words) line
verb_is verb own words read rest line here later e = cases (bytes_eq verb own) (λ is. sym ((bytes_eq-Decides verb own).0 is)) e where
  cases : (b : Bool) → (b ≡ true → own ≡ verb) → cond b read rest ≡ Ok line → IsLine (verb ∷ words) line
  cases true same f = subst (λ (v : List ℕ). IsLine (v ∷ words) line) (same refl) (here f)
  cases false same f = later f

pub words_line_is : (words : List (List ℕ)) (line : StackLine) → words_line words ≡ Ok line → IsLine words line
unfolding words_line
words_line_is [] line e = absurd cc
words_line_is (verb ∷ words) line e =
    verb_is verb (codes "page") words (with_one page_at words) _ line (one_is (codes "page") page_at page_is words line)
    (verb_is verb (codes "file") words (with_two file_at words) _ line (two_is (codes "file") file_at file_is words line)
    (verb_is verb (codes "disk") words (with_two disk_at words) _ line (two_is (codes "disk") disk_at disk_is words line)
    (verb_is verb (codes "mirror") words (with_four mirror_at words) _ line (four_is (codes "mirror") mirror_at mirror_is words line)
    (verb_is verb (codes "coherency") words (with_three (upper_at Coherency) words) _ line (three_is (codes "coherency") (upper_at Coherency) (upper_is (codes "coherency") Coherency (λ n m b. refl) tt) words line)
    (verb_is verb (codes "dfs") words (with_three (upper_at Dfs) words) _ line (three_is (codes "dfs") (upper_at Dfs) (upper_is (codes "dfs") Dfs (λ n m b. refl) tt) words line)
    (verb_is verb (codes "vmm") words (with_four vmm_at words) _ line (four_is (codes "vmm") vmm_at vmm_is words line)
    (λ none. absurd cc))))))) e

-- what is written as a line is read
page_again : (size : ℕ) → IsStackLine (Page size) → words_line (line_words (Page size)) ≡ Ok (Page size)
unfolding words_line page_at
page_again size h = ap (λ r. r >>= λ n. done (Page n)) (number_at_again size h)

file_again : (name : List ℕ) (pages : ℕ) → IsStackLine (File name pages) → words_line (line_words (File name pages)) ≡ Ok (File name pages)
unfolding words_line file_at
file_again name pages h =
    ap (λ r. r >>= λ own. number_at (decimal pages) >>= λ n. done (File own n)) (name_again name h.0)
    ∙ ap (λ r. r >>= λ n. done (File name n)) (number_at_again pages h.1)

disk_again : (name machine : List ℕ) → IsStackLine (Layer name machine Disk) → words_line (line_words (Layer name machine Disk)) ≡ Ok (Layer name machine Disk)
unfolding words_line disk_at
disk_again name machine h =
    ap (λ r. r >>= λ own. name_at machine >>= λ at. done (Layer own at Disk)) (name_again name h.0)
    ∙ ap (λ r. r >>= λ at. done (Layer name at Disk)) (name_again machine h.1)

mirror_again : (name machine left right : List ℕ) → IsStackLine (Layer name machine (Mirror left right)) → words_line (line_words (Layer name machine (Mirror left right))) ≡ Ok (Layer name machine (Mirror left right))
unfolding words_line mirror_at
mirror_again name machine left right h =
    ap (λ r. r >>= λ own. name_at machine >>= λ at. name_at left >>= λ one. name_at right >>= λ other. done (Layer own at (Mirror one other))) (name_again name h.0)
    ∙ ap (λ r. r >>= λ at. name_at left >>= λ one. name_at right >>= λ other. done (Layer name at (Mirror one other))) (name_again machine h.1)
    ∙ ap (λ r. r >>= λ one. name_at right >>= λ other. done (Layer name machine (Mirror one other))) (name_again left h.2.0)
    ∙ ap (λ r. r >>= λ other. done (Layer name machine (Mirror left other))) (name_again right h.2.1)

upper_again : (kind : UpperKind) (name machine below : List ℕ) → IsStackLine (Layer name machine (Upper kind below)) → upper_at kind name machine below ≡ Ok (Layer name machine (Upper kind below))
unfolding upper_at
upper_again kind name machine below h =
    ap (λ r. r >>= λ own. name_at machine >>= λ at. name_at below >>= λ base. done (Layer own at (Upper kind base))) (name_again name h.0)
    ∙ ap (λ r. r >>= λ at. name_at below >>= λ base. done (Layer name at (Upper kind base))) (name_again machine h.1)
    ∙ ap (λ r. r >>= λ base. done (Layer name machine (Upper kind base))) (name_again below h.2.0)

vmm_again : (name machine below : List ℕ) (frames : ℕ) → IsStackLine (Layer name machine (Upper (Vmm frames) below)) → words_line (line_words (Layer name machine (Upper (Vmm frames) below))) ≡ Ok (Layer name machine (Upper (Vmm frames) below))
unfolding words_line vmm_at
vmm_again name machine below frames h =
    ap (λ r. r >>= λ own. name_at machine >>= λ at. name_at below >>= λ base. number_at (decimal frames) >>= λ n. done (Layer own at (Upper (Vmm n) base))) (name_again name h.0)
    ∙ ap (λ r. r >>= λ at. name_at below >>= λ base. number_at (decimal frames) >>= λ n. done (Layer name at (Upper (Vmm n) base))) (name_again machine h.1)
    ∙ ap (λ r. r >>= λ base. number_at (decimal frames) >>= λ n. done (Layer name machine (Upper (Vmm n) base))) (name_again below h.2.0)
    ∙ ap (λ r. r >>= λ n. done (Layer name machine (Upper (Vmm n) below))) (number_at_again frames h.2.1)

pub line_again : (line : StackLine) → IsStackLine line → words_line (line_words line) ≡ Ok line
unfolding words_line
line_again (Page size) h = page_again size h
line_again (File name pages) h = file_again name pages h
line_again (Layer name machine Disk) h = disk_again name machine h
line_again (Layer name machine (Mirror left right)) h = mirror_again name machine left right h
line_again (Layer name machine (Upper Coherency below)) h = upper_again Coherency name machine below h
line_again (Layer name machine (Upper Dfs below)) h = upper_again Dfs name machine below h
line_again (Layer name machine (Upper (Vmm frames) below)) h = vmm_again name machine below frames h

number_word : (n : ℕ) → n < 4294967296 → IsWord (decimal n)
number_word n h = decimal_word n (omega (arith, h))

-- the words of a line can stand in one
pub are_words : (line : StackLine) → IsStackLine line → AreWords (line_words line)
are_words (Page size) h = (refl, (number_word size h, tt))
are_words (File name pages) h = (refl, (name_word name h.0, (number_word pages h.1, tt)))
are_words (Layer name machine Disk) h = (refl, (name_word name h.0, (name_word machine h.1, tt)))
are_words (Layer name machine (Mirror left right)) h = (refl, (name_word name h.0, (name_word machine h.1, (name_word left h.2.0, (name_word right h.2.1, tt)))))
are_words (Layer name machine (Upper (Vmm frames) below)) h = (refl, (name_word name h.0, (name_word machine h.1, (name_word below h.2.0, (number_word frames h.2.1, tt)))))
are_words (Layer name machine (Upper kind below)) h = (refl, (name_word name h.0, (name_word machine h.1, (name_word below h.2.0, tt))))

-- a line that is read is one of the first 128, and stands so in the text
pub record IsRead (number : ℕ) (row : Row) (line : StackLine) : Type 0 where
  pub fit : IsStackLine line
  pub bytes : row_bytes row ≡ line_of (line_words line)
  pub few : number ≤ 128

as_why_ok : (r : Result (List (List ℕ)) LineWhy) (words : List (List ℕ)) → as_stack_why r ≡ Ok words → r ≡ Ok words
as_why_ok (Ok x) words e = ap (λ (w : List (List ℕ)). Ok w) (ok_is x words e)
as_why_ok (Err why) words e = absurd cc

not_long : (t : Bool) (r : Result StackLine StackWhy) (line : StackLine) → cond t (Err why.Long) r ≡ Ok line → (t ≡ false) × (r ≡ Ok line)
not_long true r line e = absurd cc
not_long false r line e = (refl, e)

pub line_at_is : (number : ℕ) (row : Row) (line : StackLine) → line_at number row ≡ Ok line → IsRead number row line
unfolding line_at
line_at_is number row line e =
    let words = bind_ok (as_stack_why (words_at row)) (λ words. cond (ltb 128 number) (Err why.Long) (words_line words)) line e in
    let short = not_long (ltb 128 number) (words_line words.0) line words.2 in
    let is = words_line_is words.0 line short.1 in
    let bytes = words_bytes row words.0 (as_why_ok (words_at row) words.0 words.1) in
    record { fit = is.0; bytes = bytes ∙ ap line_of is.1; few = ltb-false 128 number short.0 }

pub line_at_again : (number : ℕ) (line : StackLine) → IsStackLine line → number ≤ 128 → line_at number (words_row (line_words line)) ≡ Ok line
unfolding line_at
line_at_again number line h few =
    bind_again (as_stack_why (words_at (words_row (line_words line)))) (λ words. cond (ltb 128 number) (Err why.Long) (words_line words)) (line_words line) (ap as_stack_why (words_again (line_words line) (are_words line h)))
    ∙ ap (λ t. cond t (Err why.Long) (words_line (line_words line))) (le-ltb 128 number few) ∙ line_again line h

in_line_ok : (number : ℕ) (r : Result StackLine StackWhy) (line : StackLine) → in_line number r ≡ Ok line → r ≡ Ok line
in_line_ok number (Ok x) line e = ap (λ (l : StackLine). Ok l) (same x line e) where
  same : (x line : StackLine) → in_line number (Ok x) ≡ Ok line → x ≡ line
  same x line e = cc
in_line_ok number (Err why) line e = absurd cc

-- lines that are read stand so in the text
pub record AreRead (number : ℕ) (rows : List Row) (lines : List StackLine) : Type 0 where
  pub fit : AllByRecursion IsStackLine lines
  pub bytes : flat_map row_bytes rows ≡ text_of (map (λ line. line_words line) lines)
  pub few : number + length lines ≤ 129

abbrev pub refused_done : List StackLine → Result (List StackLine) Refused
refused_done lines = Ok lines

done_is : (x y : List StackLine) → refused_done x ≡ refused_done y → x ≡ y
done_is x y e = cc

pub lines_at_are : (number : ℕ) (rows : List Row) (lines : List StackLine) → number ≤ 129 → lines_at number rows ≡ Ok lines → AreRead number rows lines
lines_at_are number [] lines few e = subst (AreRead number []) (done_is [] lines e) (record { fit = tt; bytes = refl; few = omega arith })
lines_at_are number (row ∷ rows) lines few e =
    let line = bind_ok (in_line number (line_at number row)) (λ line. lines_at (number + 1) rows >>= λ more. refused_done (line ∷ more)) lines e in
    let more = bind_ok (lines_at (number + 1) rows) (λ more. refused_done (line.0 ∷ more)) lines line.2 in
    let here = line_at_is number row line.0 (in_line_ok number (line_at number row) line.0 line.1) in
    let rest = lines_at_are (number + 1) rows more.0 (omega (arith, here.few)) more.1 in
    let left = rest.few in
    subst (AreRead number (row ∷ rows)) (done_is (line.0 ∷ more.0) lines more.2)
    (record {
      fit = (here.fit, rest.fit);
      bytes = ap (λ (bs : List ℕ). bs ++ flat_map row_bytes rows) here.bytes ∙ ap (λ (bs : List ℕ). line_of (line_words line.0) ++ bs) rest.bytes;
      few = omega (arith, left);
    })

pub lines_at_again : (number : ℕ) (lines : List StackLine) → AllByRecursion IsStackLine lines → number + length lines ≤ 129 → lines_at number (map words_row (map (λ line. line_words line) lines)) ≡ Ok lines
lines_at_again number [] h few = refl
lines_at_again number (line ∷ lines) h few =
    let rows = map words_row (map (λ l. line_words l) lines) in
    bind_again (in_line number (line_at number (words_row (line_words line)))) (λ l. lines_at (number + 1) rows >>= λ more. Ok (l ∷ more)) line (ap (in_line number) (line_at_again number line h.0 (omega arith)))
    ∙ bind_again (lines_at (number + 1) rows) (λ more. Ok (line ∷ more)) lines (lines_at_again (number + 1) lines h.1 (omega arith))

each_words : (lines : List StackLine) → AllByRecursion IsStackLine lines → AllByRecursion AreWords (map (λ line. line_words line) lines)
each_words [] h = tt
each_words (line ∷ lines) h = (are_words line h.0, each_words lines h.1)

-- a text that is read is the spelling of what is read
pub stack_at_is : (text : List ℕ) (lines : List StackLine) → stack_at text ≡ Ok lines → IsStack (record { lines = lines }) × (text ≡ spelling (record { lines = lines }))
stack_at_is text lines e =
    let are = lines_at_are 1 (rows_of text) lines (omega arith) e in
    let few = are.few in
    (record { lines = are.fit; few = omega (arith, few) }, sym (rows_joined text) ∙ are.bytes)

-- and the spelling of a stack is read as that stack
pub stack_at_again : (text : List ℕ) (stack : StackText) → IsStack stack → text ≡ spelling stack → stack_at text ≡ Ok stack.lines
stack_at_again text stack is e =
    let few = is.few in
    ap stack_at e ∙ ap (lines_at 1) (rows_again (map (λ line. line_words line) stack.lines) (each_words stack.lines is.lines)) ∙ lines_at_again 1 stack.lines is.lines (omega (arith, few))

pub lines_same : (x y : List StackLine) → refused_done x ≡ refused_done y → x ≡ y
lines_same x y e = done_is x y e

-- a refusal of a text that is spelled so is for want of memory
pub refused_memory : (w : StackWhy) (line : ℕ) (lines : List StackLine) (read : Result (List StackLine) Refused) → read ≡ Ok lines → Tells w line read → w ≡ why.Memory
refused_memory why.Memory line lines read e h = refl
refused_memory why.Byte line lines read e h = absurd cc
refused_memory why.Space line lines read e h = absurd cc
refused_memory why.End line lines read e h = absurd cc
refused_memory why.Long line lines read e h = absurd cc
refused_memory why.Verb line lines read e h = absurd cc
refused_memory why.Words line lines read e h = absurd cc
refused_memory why.Name line lines read e h = absurd cc
refused_memory why.Number line lines read e h = absurd cc
