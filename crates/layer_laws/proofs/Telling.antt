-- Two files that agree on the granted pages answer alike, and both suit the trail.
use Rattle.std.specs.Prelude.{◌==◌, ◌||◌}
use Rattle.std.proofs.Common.{◌≡◌, ℕ, ◌+◌, ◌*◌, ◌<◌, ◌≤◌, inl, inr, sym, ◌∙◌, ap, subst, refl, arith, Bool, true, false, cond, List, [], ◌∷◌, ◌++◌, length, get_or, Some, append_assoc}
use Rattle.std.proofs.lemmas.Bool.Decides.{eqb_tells}
use Rattle.std.proofs.lemmas.Bool.{eq-eqb}
use Rattle.hist_plain.specs.declared.event.Op.{Op}
use Rattle.hist_plain.specs.declared.event.Event.{Event}
use Rattle.hist_plain.specs.declared.event.Answer.TheVariants as answers
use Rattle.hist_plain.specs.File.{File}
use Rattle.hist_plain.specs.History.{page_in}
use Rattle.hist_plain.specs.Plain.{fresh, reply, Told, plainly, bytes_at, place_of}
use Rattle.tower_core.specs.TreeShape.{TreeShape, IsTree, parent}
use Rattle.tower_core.specs.Trail.{state_of, at_of, IsAllowed}
use Rattle.tower_core.specs.Legal.{IsLegal, IsLegalAfter, IsLegalNext, IsFilled, file_after, plain_shape, shown}
use Rattle.tower_core.proofs.Lives.{lives_agree, legal_suits}
use Rattle.tower_core.proofs.Legals.{legal_run, legal_snoc}
use Rattle.layer_laws.specs.Granted.{is_grant_of, is_granted_in, AgreeOnGranted}
use Rattle.layer_laws.specs.PlacesShown.{page_shown}
use Rattle.layer_laws.proofs.Grants.{granted_before}
use Rattle.layer_laws.proofs.Ranges.{within_page, inside_pages, below}
use Rattle.layer_laws.proofs.Alike.{AreAlike, replay_alike, range_alike, suit-take}

told_alike : (b : Bool) (x y : List ℕ) (n : ℕ) → (b ≡ true → x ≡ y) → ◌≡◌ {A = Told} (cond b (record { answer = answers.Bytes; bytes = x }) (plainly (answers.Revoked n))) (cond b (record { answer = answers.Bytes; bytes = y }) (plainly (answers.Revoked n)))
told_alike true x y n h = ap (λ (t : List ℕ). record { answer = answers.Bytes; bytes = t }) (h refl)
told_alike false x y n h = refl

same_number : (a b : ℕ) → (a == b) ≡ true → a ≡ b
same_number a b e = elim (eqb_tells a b) [ inl t ↦ t.1 | inr n ↦ absurd (let no' : true ≡ false = sym e ∙ n.0 in let f : ⊥ = cc in f) ]

pub reads_alike : (shape : TreeShape) (size pages : ℕ) (one other : List ℕ) (trail : List Event) (caller number node life page off len : ℕ) → IsTree shape →
    length one ≡ pages * size → length other ≡ pages * size → IsLegal shape size pages one trail → IsLegalNext shape size pages one trail (Event.Access caller number node life (Op.Read page off len)) → AgreeOnGranted size one other trail →
    reply (plain_shape shape size) (file_after shape size one trail) (Event.Access caller number node life (Op.Read page off len)) ≡ reply (plain_shape shape size) (file_after shape size other trail) (Event.Access caller number node life (Op.Read page off len))
reads_alike shape size pages one other trail caller number node life page off len tree long long' legal next agree =
    let f : File = file_after shape size one trail in
    let g : File = file_after shape size other trail in
    let nf : get_or (file_after shape size one trail).lives node 0 ≡ (state_of shape trail).life node = lives_agree shape size one trail node next.allowed.upper.inside in
    let ng : get_or (file_after shape size other trail).lives node 0 ≡ (state_of shape trail).life node = lives_agree shape size other trail node next.allowed.upper.inside in
    let inside : page < pages = inside_pages size pages page off len next.fits in
    let within : off + len ≤ size = within_page size pages page off len next.fits in
    let same : (life == get_or (file_after shape size one trail).lives node 0) ≡ true → bytes_at (file_after shape size one trail).bytes (place_of size page off) len ≡ bytes_at (file_after shape size other trail).bytes (place_of size page off) len =
    λ t.
    let now : life ≡ (state_of shape trail).life node = same_number life _ t ∙ nf in
    let ok : IsAllowed shape pages (state_of shape trail) (Event.Access caller number node ((state_of shape trail).life node) (Op.Read page off len)) = subst (λ (l : ℕ). IsAllowed shape pages (state_of shape trail) (Event.Access caller number node l (Op.Read page off len))) now next.allowed in
    let granted : is_granted_in page trail ≡ true = granted_before shape pages trail caller number node page (Op.Read page off len) tree (legal_run shape size pages one trail legal) refl ok in
    let alike : AreAlike size page (file_after shape size one trail) (file_after shape size other trail) =
    replay_alike (plain_shape shape size) page (fresh shape.parents one) (fresh shape.parents other) trail (legal_suits shape size pages one trail long legal)
    (record { lives = refl; len = long ∙ sym long'; fits = (let b = below size page pages inside in omega (arith, b, long)); same = agree page granted }) in
    range_alike size page off len (file_after shape size one trail) (file_after shape size other trail) within alike in
    ap Some (told_alike (life == get_or f.lives node 0) (bytes_at f.bytes (place_of size page off) len) (bytes_at g.bytes (place_of size page off) len) (get_or f.lives node 0) same
    ∙ ap (λ (n : ℕ). cond (life == n) (record { answer = answers.Bytes; bytes = bytes_at g.bytes (place_of size page off) len }) (plainly (answers.Revoked n))) (nf ∙ sym ng))

-- a page that both have shows alike at every place
shown_alike : (shape : TreeShape) (size pages : ℕ) (one other : List ℕ) (trail : List Event) (page place : ℕ) → length one ≡ pages * size → length other ≡ pages * size → IsLegal shape size pages one trail → page < pages →
    page_in size one page ≡ page_in size other page → page_shown shape size one trail page place ≡ page_shown shape size other trail page place
shown_alike shape size pages one other trail page place long long' legal inside same =
    (replay_alike (plain_shape shape size) page (fresh shape.parents one) (fresh shape.parents other) _ (suit-take (plain_shape shape size) (fresh shape.parents one) place trail (legal_suits shape size pages one trail long legal))
    (record { lives = refl; len = long ∙ sym long'; fits = (let b = below size page pages inside in omega (arith, b, long)); same = same })).same

copy_alike : (shape : TreeShape) (size pages : ℕ) (one other : List ℕ) (before : List Event) (node page : ℕ) → length one ≡ pages * size → length other ≡ pages * size → IsLegal shape size pages one before → page < pages →
    page_in size one page ≡ page_in size other page → shown shape size one before node page ≡ shown shape size other before node page
copy_alike shape size pages one other before node page long long' legal inside same = shown_alike shape size pages one other before page (at_of shape before node page) long long' legal inside same

-- whether a grant moves zeros is the same in both
filled_alike : (shape : TreeShape) (size pages : ℕ) (one other : List ℕ) (before : List Event) (event : Event) → length one ≡ pages * size → length other ≡ pages * size → IsLegal shape size pages one before → IsLegalNext shape size pages one before event →
    ((page : ℕ) → is_grant_of page event ≡ true → page_in size one page ≡ page_in size other page) → IsFilled shape size other before event
filled_alike shape size pages one other before (Event.ZeroFill node page write) long long' legal next same =
    sym (copy_alike shape size pages one other before (parent shape node) page long long' legal (next.fits page refl) (same page (eq-eqb page page refl))) ∙ next.filled
filled_alike shape size pages one other before (Event.PageIn node page write) long long' legal next same = λ nothing zeros.
    next.filled nothing (copy_alike shape size pages one other before (parent shape node) page long long' legal (next.fits page refl) (same page (eq-eqb page page refl)) ∙ zeros)
filled_alike shape size pages one other before _ long long' legal next same = tt

or-true : (b : Bool) → (b || true) ≡ true
or-true true = refl
or-true false = refl

granted-here : (page : ℕ) (before events : List Event) (event : Event) → is_grant_of page event ≡ true → is_granted_in page (before ++ event ∷ events) ≡ true
granted-here page [] events event grant = rw grant refl
granted-here page (b ∷ before) events event grant = rw (granted-here page before events event grant) (or-true (is_grant_of page b))

legal_after_alike : (shape : TreeShape) (size pages : ℕ) (one other : List ℕ) (before events : List Event) → length one ≡ pages * size → length other ≡ pages * size → IsLegal shape size pages one before → IsLegalAfter shape size pages one before events →
    AgreeOnGranted size one other (before ++ events) → IsLegalAfter shape size pages other before events
legal_after_alike shape size pages one other before [] long long' legal after agree = tt
legal_after_alike shape size pages one other before (event ∷ events) long long' legal after agree =
    let next : IsLegalNext shape size pages one before event = after.0 in (
      record {
        fits = next.fits;
        allowed = next.allowed;
        filled = filled_alike shape size pages one other before event long long' legal next (λ page grant. agree page (granted-here page before events event grant));
      },
      legal_after_alike shape size pages one other (before ++ event ∷ []) events long long' (legal_snoc shape size pages one before event legal next) after.1
          (subst (λ (es : List Event). AgreeOnGranted size one other es) (sym (append_assoc before (event ∷ []) events)) agree),
    )

pub legal_alike : (shape : TreeShape) (size pages : ℕ) (one other : List ℕ) (trail : List Event) → length one ≡ pages * size → length other ≡ pages * size → IsLegal shape size pages one trail → AgreeOnGranted size one other trail → IsLegal shape size pages other trail
legal_alike shape size pages one other trail long long' legal agree = legal_after_alike shape size pages one other [] trail long long' tt legal agree
