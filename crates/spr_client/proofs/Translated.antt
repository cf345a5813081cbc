-- Where addresses lead.
use Rattle.std.proofs.Common.{◌≡◌, ℕ, zero, suc, ◌<◌, ◌≤◌, ◌^◌, List, [], ◌∷◌, length, map, Bool, false, Option, Some, None, Result, Ok, Err, IsTrue, refl, sym, ap, subst, ◌∙◌, arith, lit≤, ⊎_elim}
use Rattle.std.specs.Prelude.{find, min, slice_index}
use Rattle.std.specs.Option.{option_map_or}
use Rattle.std.proofs.Math.Nat.{pow-le-pow_right}
use Rattle.std.proofs.lemmas.Bool.{cases_lt}
use Rattle.std.proofs.lemmas.Bool.Decides.{nat_tests}
use Rattle.std.proofs.lemmas.List.Elements.{All-contains}
use Rattle.hist_plain.specs.declared.event.Op.TheVariants as ops
use Rattle.hist_plain.specs.Event.{fits_page}
use Rattle.hist_plain.specs.Plain.{IsPageSize}
use Rattle.stack_accept.specs.declared.entries.FileEntry.{FileEntry}
use Rattle.stack_accept.specs.Mount.{Mount}
use Rattle.vmm_space.specs.declared.regions.Region.{Region}
use Rattle.vmm_space.specs.declared.regions.Place.{Place}
use Rattle.vmm_space.specs.declared.why.TranslateErr.{TranslateErr}
use Rattle.vmm_space.specs.declared.why.TranslateErr.TheVariants.{Unmapped}
use Rattle.vmm_space.specs.Regions.{access_in, has_address, is_in_page}
use Rattle.vmm_space.specs.Spaces.{SpaceShape, LeadsInto, translation}
use Rattle.client_objects.specs.declared.state.ClientState.{ClientState}
use Rattle.script_meaning.specs.Stack.{pages_of}
use Rattle.script_meaning.specs.Plan.{Request, ends, plan_call, plan_place, untranslated}
use Rattle.spr_client.specs.Lines.{IsMappedOn, IsPlaceOf, IsSpaceOf}

pages_in-files : (mount : Mount) (files : List FileEntry) (file : ℕ) → slice_index (map (λ f. f.pages) files) file ≡ pages_of (record mount { files = files }) file
pages_in-files mount [] file = refl
pages_in-files mount (f ∷ files) zero = refl
pages_in-files mount (f ∷ files) (suc file) = pages_in-files mount files file

-- a place of the client's space
pub place-of : (mount : Mount) (space : SpaceShape) (len : ℕ) (place : Place) → IsSpaceOf mount space → LeadsInto space len place → IsPlaceOf mount len place
place-of mount space len place of leads =
    let region : IsMappedOn mount leads.region = All-contains (IsMappedOn mount) space.regions leads.region of.regions leads.mapped in
    let size = of.page_size in
    let within = leads.within in
    record {
      leads = record {
        file = subst (λ n. n < length mount.files) (sym leads.file) region.file;
        above = subst (λ n. 0 < n) (sym leads.leaf) region.above;
        node = subst (λ n. n < length mount.tree.parents) (sym leads.leaf) region.node;
      };
      page = subst (λ n. place.page < n) (ap (λ (pages : List ℕ). slice_index pages place.file) of.files ∙ pages_in-files mount mount.files place.file) leads.page;
      some = leads.some;
      within = omega (arith, size, within);
    }

-- bytes within a page fit it
pub read-fits : (mount : Mount) (len : ℕ) (place : Place) → IsPlaceOf mount len place → IsTrue (fits_page mount.page_size (pages_of mount place.file) (ops.Read place.page place.off len))
read-fits mount len place is =
    let page = is.page in
    let some = is.some in
    let within = is.within in
    grind (arith, nat_tests)

pub write-fits : (mount : Mount) (bytes : List ℕ) (place : Place) → IsPlaceOf mount (length bytes) place → IsTrue (fits_page mount.page_size (pages_of mount place.file) (ops.Write place.page place.off bytes))
write-fits mount bytes place is =
    let page = is.page in
    let some = is.some in
    let within = is.within in
    grind (arith, nat_tests)

too_long : (size address len : ℕ) (region : Region) → size < len → is_in_page size address len region ≡ false
too_long size address len region long = grind (arith, nat_tests)

both_long : (size address n m : ℕ) (write : Bool) (region : Region) → size < n → size < m → access_in size address n write region ≡ access_in size address m write region
both_long size address n m write region a b = rw (too_long size address n region a, too_long size address m region b) refl

found_long : (size address n m : ℕ) (write : Bool) (found : Option Region) → size < n → size < m
    → option_map_or (access_in size address n write) found (Err (Unmapped address)) ≡ option_map_or (access_in size address m write) found (Err (Unmapped address))
found_long size address n m write None a b = refl
found_long size address n m write (Some region) a b = both_long size address n m write region a b

-- what is longer than any page is refused as what is longer still
pub translation-min : (space : SpaceShape) (address len most : ℕ) (write : Bool) → space.page_size < most → translation space address (min len most) write ≡ translation space address len write
translation-min space address len most write low =
    ⊎_elim
    (λ less. let same : min len most ≡ len = omega arith in ap (λ n. translation space address n write) same)
    (λ more.
    let same : min len most ≡ most = omega arith in
    let above : space.page_size < len = omega arith in
    ap (λ n. translation space address n write) same ∙ found_long space.page_size address most len write (find (has_address space.page_size address) space.regions) low above)
    (cases_lt len most)

-- a place of a page is of no more bytes than a page has
pub place-min : (mount : Mount) (len most : ℕ) (place : Place) → mount.page_size < most → IsPlaceOf mount (min len most) place → IsPlaceOf mount len place
place-min mount len most place low is =
    let within = is.within in
    let same : min len most ≡ len = omega arith in
    subst (λ n. IsPlaceOf mount n place) same is

-- a page is small
pub page-small : (size : ℕ) → IsPageSize size → size < 4294967295
page-small size is =
    let most : 2 ^ is.0 ≤ 2 ^ 12 = pow-le-pow_right (lit≤ tt) is.2 in
    let same = is.3 in
    omega (arith, most, same)

-- the plans
pub place-err : (state : ClientState) (found : Result Place TranslateErr) (why : TranslateErr) (request : Place → Request) → found ≡ Err why → plan_place state found request ≡ ends (untranslated why) state
place-err state found why request is = ap (λ (r : Result Place TranslateErr). plan_place state r request) is

pub place-ok : (state : ClientState) (found : Result Place TranslateErr) (place : Place) (request : Place → Request) → found ≡ Ok place → plan_place state found request ≡ plan_call state (request place)
place-ok state found place request is = ap (λ (r : Result Place TranslateErr). plan_place state r request) is
