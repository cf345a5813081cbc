-- A call that is spelled so is read, and its words are words of a line that is not long.
use Rattle.std.proofs.Common.{◌≡◌, ℕ, ◌+◌, ◌≤◌, List, [], ◌∷◌, length, Result, Ok, refl, ◌∙◌, arith, lit≤, length-append}
use Rattle.std.specs.List.{AllByRecursion, join_with_byte}
use Rattle.std.specs.Fmt.{decimal}
use Rattle.hex.specs.Hex.{encode_lower}
use Rattle.text_words.specs.Words.{path_word}
use Rattle.text_words.specs.Lines.{IsWord}
use Rattle.script_text.specs.declared.script.Call.{Call}
use Rattle.script_text.specs.declared.script.Call.TheVariants as calls
use Rattle.script_text.specs.declared.verb.Verb.{Verb}
use Rattle.script_text.specs.declared.verb.Verb.TheVariants as verbs
use Rattle.script_text.specs.declared.why.ScriptWhy.{ScriptWhy}
use Rattle.script_text.specs.Grammar.{IsCall, call_words, verb_word, sub_word, mode_word}
use Rattle.script_text.specs.Reading.{◌>>=◌, verb_at, one_at, two_at, bind_at, replicate_at, read_at, write_at, map_at, args_at, call_at, name_at, path_at, sub_at, mode_at, number_at, address_at, hex_at}
use Rattle.script_text.proofs.Fields.{Reads, step, name_reads, path_reads, root_reads, sub_reads, mode_reads, number_reads, address_reads, hex_reads}

pub verb_again : (verb : Verb) → verb_at (verb_word verb) ≡ Ok verb
unfolding verb_at
verb_again verbs.Context = refl
verb_again verbs.Bind = refl
verb_again verbs.Replicate = refl
verb_again verbs.Unbind = refl
verb_again verbs.List = refl
verb_again verbs.Open = refl
verb_again verbs.Copy = refl
verb_again verbs.Drop = refl
verb_again verbs.Read = refl
verb_again verbs.Write = refl
verb_again verbs.Clear = refl
verb_again verbs.Sync = refl
verb_again verbs.Clean = refl
verb_again verbs.Map = refl
verb_again verbs.Unmap = refl
verb_again verbs.Load = refl
verb_again verbs.Store = refl
verb_again verbs.Revoke = refl
verb_again verbs.Release = refl

-- the arguments of a call are read
args_again : (verb : Verb) (args : List (List ℕ)) (call : Call) → args_at verb args ≡ Ok call → call_at (verb_word verb ∷ args) ≡ Ok call
unfolding call_at
args_again verb args call e = step (verb_at (verb_word verb)) verb (λ v. args_at v args) (verb_again verb) ∙ e

one_again : {A : Type 0} {read : List ℕ → Result A ScriptWhy} {write : A → List ℕ} {Is : A → Type 0} {most : ℕ} (R : Reads read write Is most) (make : A → Call) (x : A) → Is x → (read (write x) >>= λ y. Ok (make y)) ≡ Ok (make x)
one_again {read = read} {write = write} R make x is = step (read (write x)) x (λ y. Ok (make y)) (R.again x is)

pub call_again : (call : Call) → IsCall call → call_at (call_words call) ≡ Ok call
unfolding one_at two_at bind_at replicate_at read_at write_at map_at
call_again (calls.Context path) h = args_again verbs.Context _ _ (one_again path_reads calls.Context path h)
call_again (calls.Bind path sub view file) h =
    args_again verbs.Bind _ _
    (step (path_at (path_word path)) path (λ p. sub_at (sub_word sub) >>= λ s. name_at view >>= λ v. name_at file >>= λ f. Ok (calls.Bind p s v f)) (path_reads.again path h.0)
    ∙ step (sub_at (sub_word sub)) sub (λ s. name_at view >>= λ v. name_at file >>= λ f. Ok (calls.Bind path s v f)) (sub_reads.again sub tt)
    ∙ step (name_at view) view (λ v. name_at file >>= λ f. Ok (calls.Bind path sub v f)) (name_reads.again view h.1)
    ∙ one_again name_reads (calls.Bind path sub view) file h.2)
call_again (calls.Replicate path file views) h =
    args_again verbs.Replicate _ _
    (step (path_at (path_word path)) path (λ p. name_at file >>= λ f. path_at (path_word views) >>= λ v. Ok (calls.Replicate p f v)) (path_reads.again path h.0)
    ∙ step (name_at file) file (λ f. path_at (path_word views) >>= λ v. Ok (calls.Replicate path f v)) (name_reads.again file h.1)
    ∙ one_again path_reads (calls.Replicate path file) views h.2)
call_again (calls.Unbind path) h = args_again verbs.Unbind _ _ (one_again path_reads calls.Unbind path h)
call_again (calls.List path) h = args_again verbs.List _ _ (one_again root_reads calls.List path h)
call_again (calls.Open object path) h = args_again verbs.Open _ _ (step (name_at object) object (λ o. path_at (path_word path) >>= λ p. Ok (calls.Open o p)) (name_reads.again object h.0) ∙ one_again path_reads (calls.Open object) path h.1)
call_again (calls.Copy object other) h = args_again verbs.Copy _ _ (step (name_at object) object (λ o. name_at other >>= λ p. Ok (calls.Copy o p)) (name_reads.again object h.0) ∙ one_again name_reads (calls.Copy object) other h.1)
call_again (calls.Drop object) h = args_again verbs.Drop _ _ (one_again name_reads calls.Drop object h)
call_again (calls.Read object page off len) h =
    args_again verbs.Read _ _
    (step (name_at object) object (λ o. number_at (decimal page) >>= λ p. number_at (decimal off) >>= λ f. number_at (decimal len) >>= λ l. Ok (calls.Read o p f l)) (name_reads.again object h.0)
    ∙ step (number_at (decimal page)) page (λ p. number_at (decimal off) >>= λ f. number_at (decimal len) >>= λ l. Ok (calls.Read object p f l)) (number_reads.again page h.1)
    ∙ step (number_at (decimal off)) off (λ f. number_at (decimal len) >>= λ l. Ok (calls.Read object page f l)) (number_reads.again off h.2)
    ∙ one_again number_reads (calls.Read object page off) len h.3)
call_again (calls.Write object page off bytes) h =
    args_again verbs.Write _ _
    (step (name_at object) object (λ o. number_at (decimal page) >>= λ p. number_at (decimal off) >>= λ f. hex_at (encode_lower bytes) >>= λ b. Ok (calls.Write o p f b)) (name_reads.again object h.0)
    ∙ step (number_at (decimal page)) page (λ p. number_at (decimal off) >>= λ f. hex_at (encode_lower bytes) >>= λ b. Ok (calls.Write object p f b)) (number_reads.again page h.1)
    ∙ step (number_at (decimal off)) off (λ f. hex_at (encode_lower bytes) >>= λ b. Ok (calls.Write object page f b)) (number_reads.again off h.2)
    ∙ one_again hex_reads (calls.Write object page off) bytes h.3)
call_again (calls.Clear object page) h = args_again verbs.Clear _ _ (step (name_at object) object (λ o. number_at (decimal page) >>= λ p. Ok (calls.Clear o p)) (name_reads.again object h.0) ∙ one_again number_reads (calls.Clear object) page h.1)
call_again (calls.Sync object) h = args_again verbs.Sync _ _ (one_again name_reads calls.Sync object h)
call_again (calls.Clean object) h = args_again verbs.Clean _ _ (one_again name_reads calls.Clean object h)
call_again (calls.Map region object address pages write) h =
    args_again verbs.Map _ _
    (step (name_at region) region (λ r. name_at object >>= λ o. mode_at (mode_word write) >>= λ m. address_at (decimal address) >>= λ a. number_at (decimal pages) >>= λ p. Ok (calls.Map r o a p m)) (name_reads.again region h.0)
    ∙ step (name_at object) object (λ o. mode_at (mode_word write) >>= λ m. address_at (decimal address) >>= λ a. number_at (decimal pages) >>= λ p. Ok (calls.Map region o a p m)) (name_reads.again object h.1)
    ∙ step (mode_at (mode_word write)) write (λ m. address_at (decimal address) >>= λ a. number_at (decimal pages) >>= λ p. Ok (calls.Map region object a p m)) (mode_reads.again write tt)
    ∙ step (address_at (decimal address)) address (λ a. number_at (decimal pages) >>= λ p. Ok (calls.Map region object a p write)) (address_reads.again address h.2)
    ∙ one_again number_reads (λ p. calls.Map region object address p write) pages h.3)
call_again (calls.Unmap region) h = args_again verbs.Unmap _ _ (one_again name_reads calls.Unmap region h)
call_again (calls.Load address len) h = args_again verbs.Load _ _ (step (address_at (decimal address)) address (λ a. number_at (decimal len) >>= λ l. Ok (calls.Load a l)) (address_reads.again address h.0) ∙ one_again number_reads (calls.Load address) len h.1)
call_again (calls.Store address bytes) h = args_again verbs.Store _ _ (step (address_at (decimal address)) address (λ a. hex_at (encode_lower bytes) >>= λ b. Ok (calls.Store a b)) (address_reads.again address h.0) ∙ one_again hex_reads (calls.Store address) bytes h.1)
call_again (calls.Revoke layer file) h = args_again verbs.Revoke _ _ (step (name_at layer) layer (λ l. name_at file >>= λ f. Ok (calls.Revoke l f)) (name_reads.again layer h.0) ∙ one_again name_reads (calls.Revoke layer) file h.1)
call_again (calls.Release layer file) h = args_again verbs.Release _ _ (step (name_at layer) layer (λ l. name_at file >>= λ f. Ok (calls.Release l f)) (name_reads.again layer h.0) ∙ one_again name_reads (calls.Release layer) file h.1)

-- words with a space after each
abbrev pub cost : List (List ℕ) → ℕ
cost [] = 0
cost (word ∷ words) = length word + 1 + cost words

pub joined_cost : (word : List ℕ) (words : List (List ℕ)) → length (join_with_byte 32 (word ∷ words)) + 1 ≡ cost (word ∷ words)
joined_cost word [] = omega arith
joined_cost word (next ∷ words) =
    let rest = joined_cost next words in
    let both = length-append word (32 ∷ join_with_byte 32 (next ∷ words)) in
    omega arith

-- words of a line, and at most so many bytes of them
pub record Fits (most : ℕ) (words : List (List ℕ)) : Type 0 where
  pub are : AllByRecursion IsWord words
  pub bytes : cost words ≤ most

fits_none : Fits 0 []
fits_none = record { are = tt; bytes = lit≤ tt }

pub fits_more : (m k : ℕ) (word : List ℕ) (words : List (List ℕ)) → IsWord word → length word ≤ m → Fits k words → Fits (m + 1 + k) (word ∷ words)
fits_more m k word words is short rest = let r = rest.bytes in record { are = (is, rest.are); bytes = omega arith }

with_field : {A : Type 0} {read : List ℕ → Result A ScriptWhy} {write : A → List ℕ} {Is : A → Type 0} {most k : ℕ} {words : List (List ℕ)} (R : Reads read write Is most) (x : A) → Is x → Fits k words → Fits (most + 1 + k) (write x ∷ words)
with_field {write = write} {most = most} {k = k} {words = words} R x is rest = fits_more most k (write x) words (R.word x is) (R.short x is) rest

verb_is_word : (verb : Verb) → IsWord (verb_word verb) × (length (verb_word verb) ≤ 9)
verb_is_word verbs.Context = (refl, lit≤ tt)
verb_is_word verbs.Bind = (refl, lit≤ tt)
verb_is_word verbs.Replicate = (refl, lit≤ tt)
verb_is_word verbs.Unbind = (refl, lit≤ tt)
verb_is_word verbs.List = (refl, lit≤ tt)
verb_is_word verbs.Open = (refl, lit≤ tt)
verb_is_word verbs.Copy = (refl, lit≤ tt)
verb_is_word verbs.Drop = (refl, lit≤ tt)
verb_is_word verbs.Read = (refl, lit≤ tt)
verb_is_word verbs.Write = (refl, lit≤ tt)
verb_is_word verbs.Clear = (refl, lit≤ tt)
verb_is_word verbs.Sync = (refl, lit≤ tt)
verb_is_word verbs.Clean = (refl, lit≤ tt)
verb_is_word verbs.Map = (refl, lit≤ tt)
verb_is_word verbs.Unmap = (refl, lit≤ tt)
verb_is_word verbs.Load = (refl, lit≤ tt)
verb_is_word verbs.Store = (refl, lit≤ tt)
verb_is_word verbs.Revoke = (refl, lit≤ tt)
verb_is_word verbs.Release = (refl, lit≤ tt)

fits_call : (k : ℕ) (verb : Verb) (args : List (List ℕ)) → k ≤ 8300 → Fits k args → Fits 8310 (verb_word verb ∷ args)
fits_call k verb args few rest = let v = verb_is_word verb in let r = rest.bytes in let s = v.1 in record { are = (v.0, rest.are); bytes = omega arith }

pub call_fits : (call : Call) → IsCall call → Fits 8310 (call_words call)
call_fits (calls.Context path) h = fits_call _ verbs.Context _ (lit≤ tt) (with_field path_reads path h fits_none)
call_fits (calls.Bind path sub view file) h = fits_call _ verbs.Bind _ (lit≤ tt) (with_field path_reads path h.0 (with_field sub_reads sub tt (with_field name_reads view h.1 (with_field name_reads file h.2 fits_none))))
call_fits (calls.Replicate path file views) h = fits_call _ verbs.Replicate _ (lit≤ tt) (with_field path_reads path h.0 (with_field name_reads file h.1 (with_field path_reads views h.2 fits_none)))
call_fits (calls.Unbind path) h = fits_call _ verbs.Unbind _ (lit≤ tt) (with_field path_reads path h fits_none)
call_fits (calls.List path) h = fits_call _ verbs.List _ (lit≤ tt) (with_field root_reads path h fits_none)
call_fits (calls.Open object path) h = fits_call _ verbs.Open _ (lit≤ tt) (with_field name_reads object h.0 (with_field path_reads path h.1 fits_none))
call_fits (calls.Copy object other) h = fits_call _ verbs.Copy _ (lit≤ tt) (with_field name_reads object h.0 (with_field name_reads other h.1 fits_none))
call_fits (calls.Drop object) h = fits_call _ verbs.Drop _ (lit≤ tt) (with_field name_reads object h fits_none)
call_fits (calls.Read object page off len) h = fits_call _ verbs.Read _ (lit≤ tt) (with_field name_reads object h.0 (with_field number_reads page h.1 (with_field number_reads off h.2 (with_field number_reads len h.3 fits_none))))
call_fits (calls.Write object page off bytes) h = fits_call _ verbs.Write _ (lit≤ tt) (with_field name_reads object h.0 (with_field number_reads page h.1 (with_field number_reads off h.2 (with_field hex_reads bytes h.3 fits_none))))
call_fits (calls.Clear object page) h = fits_call _ verbs.Clear _ (lit≤ tt) (with_field name_reads object h.0 (with_field number_reads page h.1 fits_none))
call_fits (calls.Sync object) h = fits_call _ verbs.Sync _ (lit≤ tt) (with_field name_reads object h fits_none)
call_fits (calls.Clean object) h = fits_call _ verbs.Clean _ (lit≤ tt) (with_field name_reads object h fits_none)
call_fits (calls.Map region object address pages write) h = fits_call _ verbs.Map _ (lit≤ tt) (with_field name_reads region h.0 (with_field name_reads object h.1 (with_field address_reads address h.2 (with_field number_reads pages h.3 (with_field mode_reads write tt fits_none)))))
call_fits (calls.Unmap region) h = fits_call _ verbs.Unmap _ (lit≤ tt) (with_field name_reads region h fits_none)
call_fits (calls.Load address len) h = fits_call _ verbs.Load _ (lit≤ tt) (with_field address_reads address h.0 (with_field number_reads len h.1 fits_none))
call_fits (calls.Store address bytes) h = fits_call _ verbs.Store _ (lit≤ tt) (with_field address_reads address h.0 (with_field hex_reads bytes h.1 fits_none))
call_fits (calls.Revoke layer file) h = fits_call _ verbs.Revoke _ (lit≤ tt) (with_field name_reads layer h.0 (with_field name_reads file h.1 fits_none))
call_fits (calls.Release layer file) h = fits_call _ verbs.Release _ (lit≤ tt) (with_field name_reads layer h.0 (with_field name_reads file h.1 fits_none))
