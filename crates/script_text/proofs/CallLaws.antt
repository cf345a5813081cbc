-- A call that is read is spelled so, and a call that is spelled so is read.
use Rattle.std.proofs.Common.{◌≡◌, ℕ, List, [], ◌∷◌, Bool, true, false, cond, Option, Some, Result, Ok, refl, sym, ap, subst, ◌∙◌, inl, inr, ◌⊎◌}
use Rattle.std.specs.Str.{bytes_eq}
use Rattle.text_words.specs.Words.{path_word}
use Rattle.script_text.specs.declared.script.Call.{Call}
use Rattle.script_text.specs.declared.script.Call.TheVariants as calls
use Rattle.script_text.specs.declared.verb.Verb.{Verb}
use Rattle.script_text.specs.declared.verb.Verb.TheVariants as verbs
use Rattle.script_text.specs.declared.why.ScriptWhy.{ScriptWhy}
use Rattle.script_text.specs.declared.why.ScriptWhy.TheVariants as why
use Rattle.script_text.specs.Grammar.{IsCall, call_words, verb_word}
use Rattle.script_text.specs.Reading.{◌>>=◌, named, all_verbs, verb_at, one_at, two_at, bind_at, replicate_at, read_at, write_at, map_at, three_at, four_at, five_at, args_at, call_at, name_at, mode_at, address_at, number_at, path_at}
use Rattle.script_text.proofs.Fields.{Reads, ok_is, bind_ok, some_of, same_word, name_reads, path_reads, root_reads, sub_reads, mode_reads, number_reads, address_reads, hex_reads}

-- the verb that a word is has that word
found_first : (b : Bool) (u v : Verb) (rest : Option Verb) → cond b (Some u) rest ≡ Some v → ((b ≡ true) × (u ≡ v)) ⊎ (rest ≡ Some v)
found_first true u v rest e = inl (refl, cc)
found_first false u v rest e = inr e

named_is : (word : List ℕ) (vs : List Verb) (v : Verb) → named word vs ≡ Some v → word ≡ verb_word v
named_is word [] v e = absurd cc
named_is word (u ∷ vs) v e =
    elim (found_first (bytes_eq (verb_word u) word) u v (named word vs) e) [
      | inl h ↦ sym (same_word (verb_word u) word h.0) ∙ ap verb_word h.1
      | inr rest ↦ named_is word vs v rest
    ]

verb_found : (word : List ℕ) (v : Verb) → verb_at word ≡ Ok v → word ≡ verb_word v
unfolding verb_at
verb_found word v e = named_is word all_verbs v (some_of why.Verb (named word all_verbs) v e)

-- what was read of one word, two words and more
one_found : {A : Type 0} {read : List ℕ → Result A ScriptWhy} {write : A → List ℕ} {Is : A → Type 0} {most : ℕ} (R : Reads read write Is most) (make : A → Call) (P : Call → List ℕ → Type 0)
    → ((x : A) → Is x → P (make x) (write x)) → (a : List ℕ) (call : Call) → (read a >>= λ x. Ok (make x)) ≡ Ok call → P call a
one_found {read = read} {write = write} R make P so a call e =
    let b = bind_ok (read a) (λ x. Ok (make x)) call e in
    let f = R.found a b.0 b.1 in
    let is : make b.0 ≡ call = ok_is (make b.0) call b.2 in
    subst (λ (c : Call). P c a) is (subst (λ (w : List ℕ). P (make b.0) w) (sym f.0) (so b.0 f.1))

two_found : {A B : Type 0} {read : List ℕ → Result A ScriptWhy} {write : A → List ℕ} {Is : A → Type 0} {most : ℕ} (R : Reads read write Is most)
    → {read' : List ℕ → Result B ScriptWhy} {write' : B → List ℕ} {Is' : B → Type 0} {most' : ℕ} (S : Reads read' write' Is' most') (make : A → B → Call) (P : Call → List ℕ → List ℕ → Type 0)
    → ((x : A) → Is x → (y : B) → Is' y → P (make x y) (write x) (write' y)) → (a b : List ℕ) (call : Call) → (read a >>= λ x. read' b >>= λ y. Ok (make x y)) ≡ Ok call → P call a b
two_found {read = read} {write = write} R {read' = read'} S make P so a b call e =
    let t = bind_ok (read a) (λ x. read' b >>= λ y. Ok (make x y)) call e in
    let f = R.found a t.0 t.1 in
    subst (λ (w : List ℕ). P call w b) (sym f.0) (one_found S (make t.0) (λ c w. P c (write t.0) w) (so t.0 f.1) b call t.2)

four_found : {A B C D : Type 0} {ra : List ℕ → Result A ScriptWhy} {wa : A → List ℕ} {IA : A → Type 0} {ma : ℕ} (RA : Reads ra wa IA ma)
    → {rb : List ℕ → Result B ScriptWhy} {wb : B → List ℕ} {IB : B → Type 0} {mb : ℕ} (RB : Reads rb wb IB mb)
    → {rc : List ℕ → Result C ScriptWhy} {wc : C → List ℕ} {IC : C → Type 0} {mc : ℕ} (RC : Reads rc wc IC mc)
    → {rd : List ℕ → Result D ScriptWhy} {wd : D → List ℕ} {ID : D → Type 0} {md : ℕ} (RD : Reads rd wd ID md)
    → (make : A → B → C → D → Call) (P : Call → List ℕ → List ℕ → List ℕ → List ℕ → Type 0)
    → ((x : A) → IA x → (y : B) → IB y → (z : C) → IC z → (u : D) → ID u → P (make x y z u) (wa x) (wb y) (wc z) (wd u))
    → (a b c d : List ℕ) (call : Call) → (ra a >>= λ x. rb b >>= λ y. rc c >>= λ z. rd d >>= λ u. Ok (make x y z u)) ≡ Ok call → P call a b c d
four_found {ra = ra} {wa = wa} RA {rb = rb} {wb = wb} RB {rc = rc} RC {rd = rd} RD make P so a b c d call e =
    let s = bind_ok (ra a) (λ x. rb b >>= λ y. rc c >>= λ z. rd d >>= λ u. Ok (make x y z u)) call e in
    let f = RA.found a s.0 s.1 in
    let t = bind_ok (rb b) (λ y. rc c >>= λ z. rd d >>= λ u. Ok (make s.0 y z u)) call s.2 in
    let g = RB.found b t.0 t.1 in
    subst (λ (w : List ℕ). P call w b c d) (sym f.0)
    (subst (λ (w : List ℕ). P call (wa s.0) w c d) (sym g.0)
    (two_found RC RD (make s.0 t.0) (λ k v w. P k (wa s.0) (wb t.0) v w) (so s.0 f.1 t.0 g.1) c d call t.2))

-- a call, and its words
abbrev Spells : Verb → Call → List (List ℕ) → Type 0
Spells verb call args = IsCall call × ((verb_word verb ∷ args) ≡ call_words call)

spelled_one : (verb : Verb) (a : List ℕ) (call : Call) → one_at verb a ≡ Ok call → Spells verb call (a ∷ [])
unfolding one_at
spelled_one verbs.Context a call e = one_found path_reads calls.Context (λ c w. Spells verbs.Context c (w ∷ [])) (λ x is. (is, refl)) a call e
spelled_one verbs.Unbind a call e = one_found path_reads calls.Unbind (λ c w. Spells verbs.Unbind c (w ∷ [])) (λ x is. (is, refl)) a call e
spelled_one verbs.List a call e = one_found root_reads calls.List (λ c w. Spells verbs.List c (w ∷ [])) (λ x is. (is, refl)) a call e
spelled_one verbs.Drop a call e = one_found name_reads calls.Drop (λ c w. Spells verbs.Drop c (w ∷ [])) (λ x is. (is, refl)) a call e
spelled_one verbs.Sync a call e = one_found name_reads calls.Sync (λ c w. Spells verbs.Sync c (w ∷ [])) (λ x is. (is, refl)) a call e
spelled_one verbs.Clean a call e = one_found name_reads calls.Clean (λ c w. Spells verbs.Clean c (w ∷ [])) (λ x is. (is, refl)) a call e
spelled_one verbs.Unmap a call e = one_found name_reads calls.Unmap (λ c w. Spells verbs.Unmap c (w ∷ [])) (λ x is. (is, refl)) a call e
spelled_one verbs.Bind a call e = absurd cc
spelled_one verbs.Replicate a call e = absurd cc
spelled_one verbs.Open a call e = absurd cc
spelled_one verbs.Copy a call e = absurd cc
spelled_one verbs.Read a call e = absurd cc
spelled_one verbs.Write a call e = absurd cc
spelled_one verbs.Clear a call e = absurd cc
spelled_one verbs.Map a call e = absurd cc
spelled_one verbs.Load a call e = absurd cc
spelled_one verbs.Store a call e = absurd cc
spelled_one verbs.Revoke a call e = absurd cc
spelled_one verbs.Release a call e = absurd cc

spelled_two : (verb : Verb) (a b : List ℕ) (call : Call) → two_at verb a b ≡ Ok call → Spells verb call (a ∷ b ∷ [])
unfolding two_at
spelled_two verbs.Open a b call e = two_found name_reads path_reads calls.Open (λ c v w. Spells verbs.Open c (v ∷ w ∷ [])) (λ x p y q. ((p, q), refl)) a b call e
spelled_two verbs.Copy a b call e = two_found name_reads name_reads calls.Copy (λ c v w. Spells verbs.Copy c (v ∷ w ∷ [])) (λ x p y q. ((p, q), refl)) a b call e
spelled_two verbs.Clear a b call e = two_found name_reads number_reads calls.Clear (λ c v w. Spells verbs.Clear c (v ∷ w ∷ [])) (λ x p y q. ((p, q), refl)) a b call e
spelled_two verbs.Load a b call e = two_found address_reads number_reads calls.Load (λ c v w. Spells verbs.Load c (v ∷ w ∷ [])) (λ x p y q. ((p, q), refl)) a b call e
spelled_two verbs.Store a b call e = two_found address_reads hex_reads calls.Store (λ c v w. Spells verbs.Store c (v ∷ w ∷ [])) (λ x p y q. ((p, q), refl)) a b call e
spelled_two verbs.Revoke a b call e = two_found name_reads name_reads calls.Revoke (λ c v w. Spells verbs.Revoke c (v ∷ w ∷ [])) (λ x p y q. ((p, q), refl)) a b call e
spelled_two verbs.Release a b call e = two_found name_reads name_reads calls.Release (λ c v w. Spells verbs.Release c (v ∷ w ∷ [])) (λ x p y q. ((p, q), refl)) a b call e
spelled_two verbs.Context a b call e = absurd cc
spelled_two verbs.Bind a b call e = absurd cc
spelled_two verbs.Replicate a b call e = absurd cc
spelled_two verbs.Unbind a b call e = absurd cc
spelled_two verbs.List a b call e = absurd cc
spelled_two verbs.Drop a b call e = absurd cc
spelled_two verbs.Read a b call e = absurd cc
spelled_two verbs.Write a b call e = absurd cc
spelled_two verbs.Sync a b call e = absurd cc
spelled_two verbs.Clean a b call e = absurd cc
spelled_two verbs.Map a b call e = absurd cc
spelled_two verbs.Unmap a b call e = absurd cc

spelled_bind : (a b c d : List ℕ) (call : Call) → bind_at a b c d ≡ Ok call → Spells verbs.Bind call (a ∷ b ∷ c ∷ d ∷ [])
unfolding bind_at
spelled_bind a b c d call e = four_found path_reads sub_reads name_reads name_reads calls.Bind (λ k s t u v. Spells verbs.Bind k (s ∷ t ∷ u ∷ v ∷ [])) (λ x p y q z r u s. ((p, r, s), refl)) a b c d call e

spelled_replicate : (a b c : List ℕ) (call : Call) → replicate_at a b c ≡ Ok call → Spells verbs.Replicate call (a ∷ b ∷ c ∷ [])
unfolding replicate_at
spelled_replicate a b c call e =
    let t = bind_ok (path_at a) (λ p. name_at b >>= λ f. path_at c >>= λ v. Ok (calls.Replicate p f v)) call e in
    let f = path_reads.found a t.0 t.1 in
    subst (λ (w : List ℕ). Spells verbs.Replicate call (w ∷ b ∷ c ∷ [])) (sym f.0)
    (two_found name_reads path_reads (calls.Replicate t.0) (λ k v w. Spells verbs.Replicate k (path_word t.0 ∷ v ∷ w ∷ [])) (λ x p y q. ((f.1, p, q), refl)) b c call t.2)

spelled_read : (a b c d : List ℕ) (call : Call) → read_at a b c d ≡ Ok call → Spells verbs.Read call (a ∷ b ∷ c ∷ d ∷ [])
unfolding read_at
spelled_read a b c d call e = four_found name_reads number_reads number_reads number_reads calls.Read (λ k s t u v. Spells verbs.Read k (s ∷ t ∷ u ∷ v ∷ [])) (λ x p y q z r u s. ((p, q, r, s), refl)) a b c d call e

spelled_write : (a b c d : List ℕ) (call : Call) → write_at a b c d ≡ Ok call → Spells verbs.Write call (a ∷ b ∷ c ∷ d ∷ [])
unfolding write_at
spelled_write a b c d call e = four_found name_reads number_reads number_reads hex_reads calls.Write (λ k s t u v. Spells verbs.Write k (s ∷ t ∷ u ∷ v ∷ [])) (λ x p y q z r u s. ((p, q, r, s), refl)) a b c d call e

-- the mode is read third, and stands last
spelled_map : (a b c d m : List ℕ) (call : Call) → map_at a b c d m ≡ Ok call → Spells verbs.Map call (a ∷ b ∷ c ∷ d ∷ m ∷ [])
unfolding map_at
spelled_map a b c d m call e =
    let t = bind_ok (name_at a) (λ r. name_at b >>= λ o. mode_at m >>= λ w. address_at c >>= λ x. number_at d >>= λ p. Ok (calls.Map r o x p w)) call e in
    let f = name_reads.found a t.0 t.1 in
    subst (λ (w : List ℕ). Spells verbs.Map call (w ∷ b ∷ c ∷ d ∷ m ∷ [])) (sym f.0)
    (four_found name_reads mode_reads address_reads number_reads (λ o w x p. calls.Map t.0 o x p w) (λ k o w x p. Spells verbs.Map k (t.0 ∷ o ∷ x ∷ p ∷ w ∷ [])) (λ o i w j x k p l. ((f.1, i, k, l), refl)) b m c d call t.2)

spelled_three : (verb : Verb) (a b c : List ℕ) (call : Call) → three_at verb a b c ≡ Ok call → Spells verb call (a ∷ b ∷ c ∷ [])
spelled_three verbs.Replicate a b c call e = spelled_replicate a b c call e
spelled_three verbs.Context a b c call e = absurd cc
spelled_three verbs.Bind a b c call e = absurd cc
spelled_three verbs.Unbind a b c call e = absurd cc
spelled_three verbs.List a b c call e = absurd cc
spelled_three verbs.Open a b c call e = absurd cc
spelled_three verbs.Copy a b c call e = absurd cc
spelled_three verbs.Drop a b c call e = absurd cc
spelled_three verbs.Read a b c call e = absurd cc
spelled_three verbs.Write a b c call e = absurd cc
spelled_three verbs.Clear a b c call e = absurd cc
spelled_three verbs.Sync a b c call e = absurd cc
spelled_three verbs.Clean a b c call e = absurd cc
spelled_three verbs.Map a b c call e = absurd cc
spelled_three verbs.Unmap a b c call e = absurd cc
spelled_three verbs.Load a b c call e = absurd cc
spelled_three verbs.Store a b c call e = absurd cc
spelled_three verbs.Revoke a b c call e = absurd cc
spelled_three verbs.Release a b c call e = absurd cc

spelled_four : (verb : Verb) (a b c d : List ℕ) (call : Call) → four_at verb a b c d ≡ Ok call → Spells verb call (a ∷ b ∷ c ∷ d ∷ [])
spelled_four verbs.Bind a b c d call e = spelled_bind a b c d call e
spelled_four verbs.Read a b c d call e = spelled_read a b c d call e
spelled_four verbs.Write a b c d call e = spelled_write a b c d call e
spelled_four verbs.Context a b c d call e = absurd cc
spelled_four verbs.Replicate a b c d call e = absurd cc
spelled_four verbs.Unbind a b c d call e = absurd cc
spelled_four verbs.List a b c d call e = absurd cc
spelled_four verbs.Open a b c d call e = absurd cc
spelled_four verbs.Copy a b c d call e = absurd cc
spelled_four verbs.Drop a b c d call e = absurd cc
spelled_four verbs.Clear a b c d call e = absurd cc
spelled_four verbs.Sync a b c d call e = absurd cc
spelled_four verbs.Clean a b c d call e = absurd cc
spelled_four verbs.Map a b c d call e = absurd cc
spelled_four verbs.Unmap a b c d call e = absurd cc
spelled_four verbs.Load a b c d call e = absurd cc
spelled_four verbs.Store a b c d call e = absurd cc
spelled_four verbs.Revoke a b c d call e = absurd cc
spelled_four verbs.Release a b c d call e = absurd cc

spelled_five : (verb : Verb) (a b c d m : List ℕ) (call : Call) → five_at verb a b c d m ≡ Ok call → Spells verb call (a ∷ b ∷ c ∷ d ∷ m ∷ [])
spelled_five verbs.Map a b c d m call e = spelled_map a b c d m call e
spelled_five verbs.Context a b c d m call e = absurd cc
spelled_five verbs.Bind a b c d m call e = absurd cc
spelled_five verbs.Replicate a b c d m call e = absurd cc
spelled_five verbs.Unbind a b c d m call e = absurd cc
spelled_five verbs.List a b c d m call e = absurd cc
spelled_five verbs.Open a b c d m call e = absurd cc
spelled_five verbs.Copy a b c d m call e = absurd cc
spelled_five verbs.Drop a b c d m call e = absurd cc
spelled_five verbs.Read a b c d m call e = absurd cc
spelled_five verbs.Write a b c d m call e = absurd cc
spelled_five verbs.Clear a b c d m call e = absurd cc
spelled_five verbs.Sync a b c d m call e = absurd cc
spelled_five verbs.Clean a b c d m call e = absurd cc
spelled_five verbs.Unmap a b c d m call e = absurd cc
spelled_five verbs.Load a b c d m call e = absurd cc
spelled_five verbs.Store a b c d m call e = absurd cc
spelled_five verbs.Revoke a b c d m call e = absurd cc
spelled_five verbs.Release a b c d m call e = absurd cc

spelled_args : (verb : Verb) (args : List (List ℕ)) (call : Call) → args_at verb args ≡ Ok call → Spells verb call args
spelled_args verb [] call e = absurd cc
spelled_args verb (a ∷ []) call e = spelled_one verb a call e
spelled_args verb (a ∷ b ∷ []) call e = spelled_two verb a b call e
spelled_args verb (a ∷ b ∷ c ∷ []) call e = spelled_three verb a b c call e
spelled_args verb (a ∷ b ∷ c ∷ d ∷ []) call e = spelled_four verb a b c d call e
spelled_args verb (a ∷ b ∷ c ∷ d ∷ m ∷ []) call e = spelled_five verb a b c d m call e
spelled_args verb (a ∷ b ∷ c ∷ d ∷ m ∷ n ∷ args) call e = absurd cc

-- what is read as a call is spelled so
pub call_found : (words : List (List ℕ)) (call : Call) → call_at words ≡ Ok call → IsCall call × (words ≡ call_words call)
unfolding call_at
call_found [] call e = absurd cc
call_found (word ∷ args) call e =
    let t = bind_ok (verb_at word) (λ verb. args_at verb args) call e in
    let s = spelled_args t.0 args call t.2 in
    (s.0, ap (λ (w : List ℕ). w ∷ args) (verb_found word t.0 t.1) ∙ s.1)
