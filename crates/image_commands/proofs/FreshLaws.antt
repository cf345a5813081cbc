-- Stores on which fresh images are written.
use Rattle.std.proofs.Common.{◌≡◌, ℕ, zero, suc, List, [], ◌∷◌, ◌++◌, length, replicate, Option, Some, None, IfSome, refl, sym, ap, subst, ◌∙◌, arith}
use Rattle.std.specs.Prelude.{slice_get, IsSome}
use Rattle.std.proofs.lemmas.Option.{slice_get_within}
use Rattle.std.proofs.lemmas.List.{length-map}
use Rattle.stack_accept.specs.Mount.{Mount}
use Rattle.script_meaning.specs.declared.store.StoreKey.{StoreKey}
use Rattle.spr_io.specs.Content.{Content, flushed}
use Rattle.disk_format.specs.declared.shape.ImageShape.{ImageShape}
use Rattle.disk_format.specs.Shape.{first_data}
use Rattle.disk_format.specs.Image.{image, pages_of}
use Rattle.disk_layer.specs.Disk.{Disk, formatted}
use Rattle.disk_layer.specs.Calls.{Stored, Fresh}
use Rattle.file_stores.specs.declared.stop.Stop.{Stop}
use Rattle.file_stores.specs.declared.stop.Stop.TheVariants as stops
use Rattle.file_stores.specs.Keys.{image_shape}
use Rattle.file_stores.specs.State.{StoreState}
use Rattle.file_stores.specs.Held.{StoreSeen, keys_of, BecameOne, Became}
use Rattle.file_stores.proofs.Lists.{at-longer, at-last, map-more}
use Rattle.file_stores.proofs.ReturnLaws.{one-same, became-none, became-more, became-weaker}
use Rattle.image_commands.specs.Fresh.{fresh_image, IsFresh, FailedAt, IsUntouched, Part, Breaks, Went, GoesOn}

-- the pages of holes
holes : (size : ℕ) (blocks : List (List ℕ)) (n : ℕ) → pages_of size blocks (replicate n 0) ≡ replicate n (replicate size 0)
holes size blocks zero = refl
holes size blocks (suc n) = ap (λ (ps : List (List ℕ)). replicate size 0 ∷ ps) (holes size blocks n)

-- the image of holes and generation 1
image-fresh : (s t : ImageShape) (g : ℕ) (es : List ℕ) (blocks : List (List ℕ)) → s ≡ t → g ≡ 1 → es ≡ replicate t.pages 0 → image s blocks ≡ Some (record { generation = g; pages = pages_of s.page_size blocks es })
    → image t blocks ≡ Some (fresh_image t)
image-fresh s t g es blocks p q r h =
    subst (λ (x : ImageShape). image x blocks ≡ Some (record { generation = 1; pages = pages_of x.page_size blocks (replicate t.pages 0) })) p
    (subst (λ (l : List ℕ). image s blocks ≡ Some (record { generation = 1; pages = pages_of s.page_size blocks l })) r
    (subst (λ n. image s blocks ≡ Some (record { generation = n; pages = pages_of s.page_size blocks es })) q h))
    ∙ ap (λ (ps : List (List ℕ)). Some (record { generation = 1; pages = ps })) (holes t.page_size blocks t.pages)

-- what holds of the blocks holds, after a flush, of those that are kept
kept-is : (x content : Option Content) (P Q : List (List ℕ) → Type 0) → ((b : List (List ℕ)) → P b → Q b) → content ≡ flushed x → IfSome content (λ c. P c.blocks) → IfSome content (λ c. Q c.kept)
kept-is None content P Q to is h = subst (λ (o : Option Content). IfSome o (λ c. Q c.kept)) (sym is) tt
kept-is (Some c) content P Q to is h =
    subst (λ (o : Option Content). IfSome o (λ k. Q k.kept)) (sym is) (to c.blocks (subst (λ (o : Option Content). IfSome o (λ k. P k.blocks)) is h))

-- what is told of a store's content goes on being told
told-fresh : (shape : ImageShape) (n : ℕ) (old new : Option Content) → new ≡ flushed (formatted shape n old) → IfSome old (λ _. IsSome new)
told-fresh shape n None new is = tt
told-fresh shape n (Some c) new is = subst (λ (o : Option Content). IsSome o) (sym is) refl

-- a store that was formatted
pub fresh-of : (before : Stored) (d : Disk) (old new : StoreState) → old.content ≡ before.content → old.faults ≡ before.faults → new.content ≡ d.content → new.faults ≡ d.faults → Fresh before d
    → BecameOne old new (IsFresh before.shape)
fresh-of before d old new p q r s f =
    let written : new.content ≡ flushed (formatted before.shape (first_data before.shape) old.content) = r ∙ (f.content ∙ ap (λ (o : Option Content). flushed (formatted before.shape (first_data before.shape) o)) (sym p)) in
    let calm : new.faults ≡ old.faults = s ∙ (f.calm ∙ sym q) in
    record {
      becomes = record {
        written = written;
        kept = subst (λ (o : Option Content). IfSome o (λ c. image before.shape c.kept ≡ Some (fresh_image before.shape))) (sym r)
            (kept-is (formatted before.shape (first_data before.shape) before.content) d.content
            (λ b. image d.shape b ≡ Some (record { generation = d.generation; pages = pages_of d.shape.page_size b d.entries })) (λ b. image before.shape b ≡ Some (fresh_image before.shape))
            (λ b h. image-fresh d.shape before.shape d.generation d.entries b f.shape f.generation f.holes h) f.content f.image);
        calm = calm;
      };
      later = omega (arith, calm);
      told = told-fresh before.shape (first_data before.shape) old.content new.content written;
    }

-- the store that broke the formatting, and the ones before it
breaks-next : (mount : Mount) (olds news : List StoreSeen) (old new : StoreSeen) (Cause : ImageShape → StoreState → StoreState → Type 0) → Became olds news (λ at key. IsFresh (image_shape mount key)) → new.key ≡ old.key
    → BecameOne old.state new.state (Cause (image_shape mount old.key)) → Breaks mount (olds ++ old ∷ []) (news ++ new ∷ []) old.key Cause
breaks-next mount olds news old new Cause went key half =
    let number : ℕ = length olds in
    let all : keys_of (olds ++ old ∷ []) ≡ keys_of olds ++ old.key ∷ [] = map-more (λ (s : StoreSeen). s.key) olds old in
    let many : length (keys_of olds) ≡ number = length-map olds (λ (s : StoreSeen). s.key) in
    record {
      number = number;
      is = ap (λ (ks : List StoreKey). slice_get ks number) all ∙ (ap (λ n. slice_get (keys_of olds ++ old.key ∷ []) n) (sym many) ∙ at-last (keys_of olds) old.key);
      parts = became-more (Part mount number Cause) olds news old new
          (became-weaker (λ at k. IsFresh (image_shape mount k)) (Part mount number Cause) olds news
          (λ at k x y lt fresh. record { before = λ _. fresh; here = λ is. absurd (omega (arith, lt, is)); after = λ gt. absurd (omega (arith, lt, gt)) }) went)
          key (record { becomes = record { before = λ lt. absurd (omega (arith, lt)); here = λ _. half.becomes; after = λ gt. absurd (omega (arith, gt)) }; later = half.later; told = half.told });
    }

-- a store behind the one that broke the formatting
breaks-more : (mount : Mount) (olds news : List StoreSeen) (old new : StoreSeen) (key : StoreKey) (Cause : ImageShape → StoreState → StoreState → Type 0) → Breaks mount olds news key Cause → new.key ≡ old.key → new.state ≡ old.state
    → Breaks mount (olds ++ old ∷ []) (news ++ new ∷ []) key Cause
breaks-more mount olds news old new key Cause breaks same_key same =
    let all : keys_of (olds ++ old ∷ []) ≡ keys_of olds ++ old.key ∷ [] = map-more (λ (s : StoreSeen). s.key) olds old in
    let within = slice_get_within (keys_of olds) breaks.number key breaks.is in
    let many : length (keys_of olds) ≡ length olds = length-map olds (λ (s : StoreSeen). s.key) in
    record {
      number = breaks.number;
      is = ap (λ (ks : List StoreKey). slice_get ks breaks.number) all ∙ at-longer (keys_of olds) (old.key ∷ []) breaks.number key breaks.is;
      parts = became-more (Part mount breaks.number Cause) olds news old new breaks.parts same_key
          (one-same (Part mount breaks.number Cause (length olds) old.key) old.state new.state same
          (record { before = λ lt. absurd (omega (arith, within, many, lt)); here = λ is. absurd (omega (arith, within, many, is)); after = λ _. same }));
    }

pub went-none : (mount : Mount) → Went mount [] [] None
went-none mount = became-none (λ at key. IsFresh (image_shape mount key))

-- what became of the stores, and of one more
pub went-next : (mount : Mount) (olds news : List StoreSeen) (stopped after : Option Stop) (old new : StoreSeen) → Went mount olds news stopped → new.key ≡ old.key → GoesOn mount stopped old new after
    → Went mount (olds ++ old ∷ []) (news ++ new ∷ []) after
went-next mount olds news None None old new went key next = became-more (λ at k. IsFresh (image_shape mount k)) olds news old new went key next
went-next mount olds news None (Some (stops.Store store count)) old new went key next =
    subst (λ (k : StoreKey). Breaks mount (olds ++ old ∷ []) (news ++ new ∷ []) k (FailedAt count)) (sym next.0) (breaks-next mount olds news old new (FailedAt count) went key next.1)
went-next mount olds news None (Some stops.Memory) old new went key next = (old.key, breaks-next mount olds news old new IsUntouched went key next)
went-next mount olds news None (Some (stops.Bay store)) old new went key next = absurd next
went-next mount olds news None (Some (stops.Image store place why)) old new went key next = absurd next
went-next mount olds news (Some (stops.Store store count)) after old new went key next =
    subst (λ (o : Option Stop). Went mount (olds ++ old ∷ []) (news ++ new ∷ []) o) (sym next.1) (breaks-more mount olds news old new store (FailedAt count) went key next.0)
went-next mount olds news (Some stops.Memory) after old new went key next =
    subst (λ (o : Option Stop). Went mount (olds ++ old ∷ []) (news ++ new ∷ []) o) (sym next.1) (went.0, breaks-more mount olds news old new went.0 IsUntouched went.1 key next.0)
went-next mount olds news (Some (stops.Bay store)) after old new went key next = absurd went
went-next mount olds news (Some (stops.Image store place why)) after old new went key next = absurd went

-- the same stores as before
pub went-keys : (mount : Mount) (olds news : List StoreSeen) (stopped : Option Stop) → Went mount olds news stopped → keys_of news ≡ keys_of olds
went-keys mount olds news None went = went.keys
went-keys mount olds news (Some (stops.Store store count)) went = went.parts.keys
went-keys mount olds news (Some stops.Memory) went = went.1.parts.keys
went-keys mount olds news (Some (stops.Bay store)) went = absurd went
went-keys mount olds news (Some (stops.Image store place why)) went = absurd went

pub went-number : (mount : Mount) (olds news : List StoreSeen) (stopped : Option Stop) → Went mount olds news stopped → length news ≡ length olds
went-number mount olds news stopped went = sym (length-map news (λ (s : StoreSeen). s.key)) ∙ (ap length (went-keys mount olds news stopped went) ∙ length-map olds (λ (s : StoreSeen). s.key))
