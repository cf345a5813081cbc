-- What keeps a space sound.
use Rattle.std.proofs.Common.{◌≡◌, ◌≢◌, ℕ, ◌%◌, ◌<◌, ◌≤◌, List, [], ◌∷◌, ◌++◌, length, get_or, set, take, drop, true, false, not, ◌||◌, Some, None, suc, refl, ap, subst, ◌∙◌, arith, remove, length-append, ⊎_elim}
use Rattle.std.specs.Prelude.{nat_lt, ◌==◌, slice_index, All, AllPairs}
use Rattle.std.specs.List.{list_any, Contains}
use Rattle.std.specs.Prelude.{find, Result, Ok, Err, IfOk}
use Rattle.std.specs.Str.{bytes_eq}
use Rattle.std.proofs.lemmas.Slice.Eq.{bytes_eq-Decides}
use Rattle.std.proofs.lemmas.Bool.{cases_lt}
use Rattle.std.proofs.lemmas.Bool.Decides.{nat_tests}
use Rattle.std.proofs.lemmas.Grind.{common_steps}
use Rattle.std.proofs.lemmas.List.Elements.{All-push, All-append, All-take, All-drop, All-set, All-contains}
use Rattle.std.proofs.lemmas.List.Quantifiers.{all_pairs_push, all_pairs_remove}
use Rattle.vmm_space.specs.declared.TheConstants.{MAX_ADDRESS}
use Rattle.vmm_space.specs.declared.regions.Region.{Region}
use Rattle.vmm_space.specs.declared.regions.Place.{Place}
use Rattle.vmm_space.specs.declared.why.TranslateErr.{TranslateErr}
use Rattle.vmm_space.specs.declared.why.SpaceErr.TheVariants.{RegionExists, Unaligned, TooLong, Overlap}
use Rattle.vmm_space.specs.Regions.{is_named, has_address, meets, IsRegion, IsWithin, AreApart}
use Rattle.vmm_space.specs.Spaces.{SpaceShape, AreSound, IsSpace, refusal, with_region, without_named, without_region, LeadsInto}
use Rattle.vmm_space.proofs.FoundLaws.{each_fails, no_reason, find_contains}

-- no address is of two regions that do not meet
no_common : (size : ℕ) (a b : Region) (address : ℕ) → meets size b.address b.pages a ≡ false → has_address size address a ≡ true → has_address size address b ≡ true → ⊥
no_common size a b address apart of_a of_b = grind (arith, nat_tests)

different_names : (a b : List ℕ) → bytes_eq a b ≡ false → a ≢ b
different_names a b differ same = let is : bytes_eq a b ≡ true = (bytes_eq-Decides a b).1 same in cc

apart_from : (size : ℕ) (a b : Region) → is_named b.name a ≡ false → meets size b.address b.pages a ≡ false → AreApart size a b
apart_from size a b named met = record { names = different_names a.name b.name named; bytes = λ address of_a of_b. no_common size a b address met of_a of_b }

aligned_from : (n : ℕ) → not (n == 0) ≡ false → n ≡ 0
aligned_from n h = grind (arith, nat_tests)

pages_from : (pages most : ℕ) → ((pages == 0) || nat_lt most pages) ≡ false → (1 ≤ pages) × (pages ≤ most)
pages_from pages most h = grind (arith, nat_tests)

-- regions that are sound stay so, if one more of them is refused for no reason
pub mapped : (s : SpaceShape) (region : Region) → IsSpace s → refusal s region.name region.file region.address region.pages ≡ None → region.address ≤ MAX_ADDRESS → AreSound s.page_size s.files (s.regions ++ region ∷ [])
mapped s region sound none low =
    let named = no_reason (list_any (is_named region.name) s.regions) RegionExists _ none in
    let aligned = no_reason (not (region.address % s.page_size == 0)) Unaligned _ named.further in
    let long = no_reason ((region.pages == 0) || nat_lt (slice_index s.files region.file) region.pages) TooLong _ aligned.further in
    let met = no_reason (list_any (meets s.page_size region.address region.pages) s.regions) Overlap None long.further in
    let pages = pages_from region.pages (slice_index s.files region.file) long.fails in
    let is : IsRegion s.page_size s.files region =
    record { aligned = aligned_from (region.address % s.page_size) aligned.fails; low = low; some_page = pages.0; few_pages = pages.1 } in
    record {
      page_size_is = sound.page_size_is;
      whole = All-push (IsRegion s.page_size s.files) s.regions region sound.whole is;
      apart = all_pairs_push (AreApart s.page_size) s.regions region sound.apart
          (λ k d here. apart_from s.page_size (get_or s.regions k d) region
          (each_fails (is_named region.name) s.regions k d named.fails here)
          (each_fails (meets s.page_size region.address region.pages) s.regions k d met.fails here));
    }

-- and if one of them is taken away
pub unmapped : (page_size : ℕ) (files : List ℕ) (regions : List Region) (place : ℕ) → place < length regions → AreSound page_size files regions → AreSound page_size files (remove regions place)
unmapped page_size files regions place here sound = record {
  page_size_is = sound.page_size_is;
  whole = All-append (IsRegion page_size files) (take place regions) (drop (suc place) regions)
      (All-take (IsRegion page_size files) place regions sound.whole)
      (All-drop (IsRegion page_size files) (suc place) regions sound.whole);
  apart = all_pairs_remove (AreApart page_size) regions place here sound.apart;
}

-- equal regions are sound alike
pub sound_as : (page_size : ℕ) (files : List ℕ) (old new : List Region) → new ≡ old → AreSound page_size files old → AreSound page_size files new
sound_as page_size files old new same sound = rw same sound

-- the same, as the steps of `map` have it
pub mapped_by : (page_size : ℕ) (files : List ℕ) (name : List ℕ) (old between new : List Region) (region : Region)
    → AreSound page_size files old → refusal (record { page_size = page_size; files = files; regions = old }) name region.file region.address region.pages ≡ None
    → name ≡ region.name → region.address ≤ MAX_ADDRESS → between ≡ old → new ≡ between ++ region ∷ [] → AreSound page_size files new
mapped_by page_size files name old between new region sound none named low same pushed =
    let s : SpaceShape = record { page_size = page_size; files = files; regions = old } in
    let as_named : refusal s region.name region.file region.address region.pages ≡ None = rw named at none in
    rw (pushed, same) (mapped s region sound as_named low)

all_front : (P : Region → Type 0) (xs ys : List Region) → All P (xs ++ ys) → All P xs
all_front P xs ys h k d lt =
    let same : get_or (xs ++ ys) k d ≡ get_or xs k d = grind (arith, common_steps) in
    let inside : k < length (xs ++ ys) = grind (arith, common_steps) in
    rw (← same) (h k d inside)

apart_front : (R : Region → Region → Type 0) (xs ys : List Region) → AllPairs R (xs ++ ys) → AllPairs R xs
apart_front R xs ys h i j d lt within =
    let low : get_or (xs ++ ys) i d ≡ get_or xs i d = grind (arith, common_steps) in
    let high : get_or (xs ++ ys) j d ≡ get_or xs j d = grind (arith, common_steps) in
    let inside : j < length (xs ++ ys) = grind (arith, common_steps) in
    rw (← low, ← high) (h i j d lt inside)

-- the front of regions that are sound
pub sound_front : (page_size : ℕ) (files : List ℕ) (old new more : List Region) → old ≡ new ++ more → AreSound page_size files old → AreSound page_size files new
sound_front page_size files old new more is sound =
    let all : AllPairs (AreApart page_size) (new ++ more) = rw is at sound.apart in
    let whole : All (IsRegion page_size files) (new ++ more) = rw is at sound.whole in
    record {
      page_size_is = sound.page_size_is;
      whole = all_front (IsRegion page_size files) new more whole;
      apart = apart_front (AreApart page_size) new more all;
    }

-- the region, of another life
abbrev pub of_life : Region → ℕ → Region
of_life region life =
    record { name = region.name; file = region.file; leaf = region.leaf; life = life; address = region.address; pages = region.pages; write = region.write }

apart_life : (page_size : ℕ) (a b : Region) (life : ℕ) → AreApart page_size a b → AreApart page_size a (of_life b life)
apart_life page_size a b life h = record { names = h.names; bytes = h.bytes }

apart_last : (page_size : ℕ) (xs : List Region) (n : ℕ) (last : Region) (life : ℕ) → suc n ≡ length xs → last ≡ get_or xs n last → AllPairs (AreApart page_size) xs → AllPairs (AreApart page_size) (set xs n (of_life last life))
apart_last page_size xs n last life end is h i j d lt within =
    let len : length (set xs n (of_life last life)) ≡ length xs = grind (arith, common_steps) in
    let low : get_or (set xs n (of_life last life)) i d ≡ get_or xs i d = grind (arith, common_steps) in
    ⊎_elim
    (λ old. let high : get_or (set xs n (of_life last life)) j d ≡ get_or xs j d = grind (arith, common_steps) in rw (low, high) (h i j d lt (omega arith)))
    (λ above.
    let at : j ≡ n = omega arith in
    let high : get_or (set xs n (of_life last life)) j d ≡ of_life last life = grind (arith, common_steps) in
    let there : get_or xs j d ≡ last = grind (arith, common_steps) in
    let inside : j < length xs = omega arith in
    let both : AreApart page_size (get_or xs i d) (get_or xs j d) = h i j d lt inside in
    let own : AreApart page_size (get_or xs i d) last = subst (λ (r : Region). AreApart page_size (get_or xs i d) r) there both in
    rw (low, high) (apart_life page_size (get_or xs i d) last life own))
    (cases_lt j n)

-- and if the last one gets another life
pub sound_life : (page_size : ℕ) (files : List ℕ) (xs : List Region) (n : ℕ) (last : Region) (life : ℕ) → suc n ≡ length xs → last ≡ get_or xs n last → AreSound page_size files xs → AreSound page_size files (set xs n (of_life last life))
sound_life page_size files xs n last life end is sound =
    let was : IsRegion page_size files last = rw (← is) at (sound.whole n last (omega arith)) in
    let own : IsRegion page_size files (of_life last life) = record { aligned = was.aligned; low = was.low; some_page = was.some_page; few_pages = was.few_pages } in
    record {
      page_size_is = sound.page_size_is;
      whole = All-set (IsRegion page_size files) xs n (of_life last life) own sound.whole;
      apart = apart_last page_size xs n last life end is sound.apart;
    }

set_behind : (xs : List Region) (x y : Region) → set (xs ++ x ∷ []) (length xs) y ≡ xs ++ y ∷ []
set_behind [] x y = refl
set_behind (z ∷ zs) x y = ap (λ (rest : List Region). z ∷ rest) (set_behind zs x y)

at_behind : (xs : List Region) (x d : Region) → get_or (xs ++ x ∷ []) (length xs) d ≡ x
at_behind [] x d = refl
at_behind (z ∷ zs) x d = at_behind zs x d

-- the last region of a space, with another life
pub seen_life : (page_size : ℕ) (files : List ℕ) (xs : List Region) (n : ℕ) (last : Region) (life : ℕ) (space : SpaceShape) (region : Region) → suc n ≡ length xs → last ≡ get_or xs n last
    → (let s : SpaceShape = record { page_size = page_size; files = files; regions = xs } in s ≡ with_region space region)
    → (let s : SpaceShape = record { page_size = page_size; files = files; regions = set xs n (of_life last life) } in s ≡ with_region space (of_life region life))
seen_life page_size files xs n last life space region end is seen =
    let regions : xs ≡ space.regions ++ region ∷ [] = ap (λ (s : SpaceShape). s.regions) seen in
    let sizes : page_size ≡ space.page_size = ap (λ (s : SpaceShape). s.page_size) seen in
    let pages : files ≡ space.files = ap (λ (s : SpaceShape). s.files) seen in
    let at : n ≡ length space.regions = omega (arith, ap length regions, length-append space.regions (region ∷ [])) in
    let same : last ≡ region = is ∙ ap (λ (ys : List Region). get_or ys n last) regions ∙ ap (λ m. get_or (space.regions ++ region ∷ []) m last) at ∙ at_behind space.regions region last in
    let behind : set xs n (of_life last life) ≡ space.regions ++ of_life region life ∷ [] =
    ap (λ (ys : List Region). set ys n (of_life last life)) regions ∙ ap (λ m. set (space.regions ++ region ∷ []) m (of_life last life)) at ∙ set_behind space.regions region (of_life last life)
    ∙ ap (λ (r : Region). space.regions ++ of_life r life ∷ []) same in
    cc

-- a place within a page of a region that the space has
pub leads_into : (space : SpaceShape) (address len : ℕ) (region : Region) (place : Place) → IsSpace space → find (has_address space.page_size address) space.regions ≡ Some region → IsWithin space.page_size len region place → LeadsInto space len place
leads_into space address len region place sound found is =
    let mapped : Contains space.regions region = find_contains (has_address space.page_size address) space.regions region found in
    let whole : IsRegion space.page_size space.files region = All-contains (IsRegion space.page_size space.files) space.regions region sound.whole mapped in
    let few = whole.few_pages in
    let page = is.page in
    let below : place.page < slice_index space.files region.file = omega (arith, few, page) in
    record {
      region = region;
      mapped = mapped;
      file = is.file;
      leaf = is.leaf;
      life = is.life;
      page = rw is.file below;
      some = is.some;
      within = is.within;
    }

leads_if : (space : SpaceShape) (address len : ℕ) (region : Region) (r : Result Place TranslateErr) → IsSpace space → find (has_address space.page_size address) space.regions ≡ Some region → IfOk r (IsWithin space.page_size len region) → IfOk r (LeadsInto space len)
leads_if space address len region (Ok place) sound found is = leads_into space address len region place sound found is
leads_if space address len region (Err why) sound found is = tt

-- the same, as the steps of `translate` have it
pub leads_by : (space : SpaceShape) (page_size : ℕ) (files : List ℕ) (regions : List Region) (address len : ℕ) (region : Region) (r : Result Place TranslateErr) → (let s : SpaceShape = record { page_size = page_size; files = files; regions = regions } in s ≡ space)
    → AreSound page_size files regions → find (has_address page_size address) regions ≡ Some region → IfOk r (IsWithin page_size len region) → IfOk r (LeadsInto space len)
leads_by space page_size files regions address len region r same sound found is =
    subst (λ (s : SpaceShape). IfOk r (LeadsInto s len)) same (leads_if (record { page_size = page_size; files = files; regions = regions }) address len region r sound found is)

-- the space that is left, as the steps of `unmap` have it
pub without_as : (name : List ℕ) (space : SpaceShape) (page_size : ℕ) (files : List ℕ) (old new : List Region) → (let s : SpaceShape = record { page_size = page_size; files = files; regions = old } in s ≡ space)
    → new ≡ without_named name old → (let s : SpaceShape = record { page_size = page_size; files = files; regions = new } in s ≡ without_region name space)
without_as name space page_size files old new seen gone =
    let shape : List Region → SpaceShape = λ regions. record { page_size = page_size; files = files; regions = regions } in
    subst (λ (s : SpaceShape). shape new ≡ without_region name s) seen (ap shape gone)
