-- A map that is kept in memory, and the blocks that it stands for, through the calls of a store.
use Rattle.std.proofs.Common.{◌≡◌, ◌≢◌, ℕ, ◌+◌, ◌<◌, ◌≤◌, false, List, [], length, get_or, set, take, drop, Option, Some, None, IfSome, Ok, refl, sym, ap, ◌∙◌, subst, arith}
use Rattle.std.specs.Prelude.{is_some}
use Rattle.std.proofs.lemmas.List.{get_or-set_same}
use Rattle.spr_io.specs.Content.{Content, IsShaped, KeepsShape, written}
use Rattle.disk_format.specs.Shape.{map_blocks, first_data, blocks_of}
use Rattle.disk_format.specs.Table.{is_in}
use Rattle.disk_format.specs.VersionOne.{map_in, entries_in, with_entry}
use Rattle.disk_format.specs.Image.{pages_of}
use Rattle.disk_format.proofs.MapLaws.{sizes-all, map-good, not-front}
use Rattle.disk_format.proofs.TableLaws.{all-but, none-apart}
use Rattle.disk_format.proofs.PageLaws.{pages-free, pages-same, pages-named}
use Rattle.disk_format.proofs.ImageLaws.{head-data, map-data, concat-written}
use Rattle.disk_layer.specs.Front.{FrontSeen, IsMap, IsFresh, entries_on, part_of, part}
use Rattle.page_ground.specs.Seen.{with_page}
use Rattle.disk_layer.specs.Disk.{Suits, HasMap, IsMapped, IsSound, pages_named, first_in, kept_in, formatted}
use Rattle.disk_layer.proofs.BlockLaws.{length-laid, laid-zeros}
use Rattle.disk_layer.proofs.PartLaws.{place}
use Rattle.disk_layer.proofs.FrontLaws.{many-entries}

-- a store call of the same shape
abbrev pub Call : FrontSeen → ℕ → ℕ → Option Content → Type 0
Call f size number content = KeepsShape f.shape.page_size (blocks_of f.shape) size number content

pub keeps-suits : (f : FrontSeen) (s n s2 n2 : ℕ) (content : Option Content) → Suits f.shape s n → KeepsShape s n s2 n2 content → Call f s2 n2 content
keeps-suits f s n s2 n2 content u k = subst (λ v. KeepsShape v (blocks_of f.shape) s2 n2 content) u.size (subst (λ v. KeepsShape s v s2 n2 content) u.number k)

abbrev Shaped : FrontSeen → Option Content → Type 0
Shaped f content = IsShaped f.shape.page_size (blocks_of f.shape) content

-- what is told of a content of this shape
abbrev Maps : FrontSeen → Option Content → Type 0
Maps f content = IfSome content (HasMap f.shape f.map)

mapped-with : (f : FrontSeen) (size number : ℕ) (content : Option Content) → IsMap f → Call f size number content → Maps f content → IsMapped f size number content
mapped-with f size number content m k t = record { map = m; suits = record { size = k.same_size; number = k.same_number }; told = t }

-- a disk's map is one
pub mapped-of : (f : FrontSeen) (g s n : ℕ) (content : Option Content) → IsSound f g s n content → IsMapped f s n content
mapped-of f g s n None u = record { map = u.map; suits = u.suits; told = tt }
mapped-of f g s n (Some c) u = record { map = u.map; suits = u.suits; told = record { shaped = u.told.shaped; map = u.told.map } }

-- the blocks have the shape
pub mapped-shaped : (f : FrontSeen) (s n : ℕ) (content : Option Content) → IsMapped f s n content → IsShaped f.shape.page_size (blocks_of f.shape) content
mapped-shaped f s n None u = tt
mapped-shaped f s n (Some c) u = u.told.shaped

pub mapped-same : (f : FrontSeen) (s n s2 n2 : ℕ) (content after : Option Content) → IsMapped f s n content → after ≡ content → KeepsShape s n s2 n2 after → IsMapped f s2 n2 after
mapped-same f s n s2 n2 content after u e k = mapped-with f s2 n2 after u.map (keeps-suits f s n s2 n2 after u.suits k) (subst (Maps f) (sym e) u.told)

-- another draft
pub mapped-draft : (f : FrontSeen) (s n : ℕ) (draft : List ℕ) (content : Option Content) → IsMapped f s n content → IsMap (record f { draft = draft }) → IsMapped (record f { draft = draft }) s n content
mapped-draft f s n draft content u m = record { map = m; suits = u.suits; told = u.told }

-- a data block was written
pub map-apart : (f : FrontSeen) (b : ℕ) (x : List ℕ) (c : Content) → first_data f.shape ≤ b → take (map_blocks f.shape) (drop 1 (set c.blocks b x)) ≡ take (map_blocks f.shape) (drop 1 c.blocks)
map-apart f b x c le = map-data (map_blocks f.shape) c.blocks b x le

maps-data : (f : FrontSeen) (b : ℕ) (x : List ℕ) (content : Option Content) → first_data f.shape ≤ b → Shaped f (written b x content) → Maps f content → Maps f (written b x content)
maps-data f b x None le h t = tt
maps-data f b x (Some c) le h t = record { shaped = h; map = rw (map-apart f b x c le) t.map }

pub mapped-data : (f : FrontSeen) (s n s2 n2 b : ℕ) (x : List ℕ) (content after : Option Content) → IsMapped f s n content → first_data f.shape ≤ b → after ≡ written b x content → KeepsShape s n s2 n2 after → IsMapped f s2 n2 after
mapped-data f s n s2 n2 b x content after u le e k =
    let c = keeps-suits f s n s2 n2 after u.suits k in
    mapped-with f s2 n2 after u.map c (subst (Maps f) (sym e) (maps-data f b x content le (subst (Shaped f) e c.told) u.told))

-- the map's block with another entry was written
maps-named : (f : FrontSeen) (p e : ℕ) (content : Option Content) → IsMap f → p < f.shape.pages
    → Shaped f (written (1 + part_of f.shape p) (part f.shape (part_of f.shape p) (with_entry f.map p e)) content) → Maps f content
    → Maps (record f { map = with_entry f.map p e }) (written (1 + part_of f.shape p) (part f.shape (part_of f.shape p) (with_entry f.map p e)) content)
maps-named f p e None m lt h t = tt
maps-named f p e (Some c) m lt h t =
    let w = place f.shape p m.fit lt in
    record {
      shaped = h;
      map = concat-written f.shape.page_size (map_blocks f.shape) c.blocks f.map p e (part_of f.shape p) (sizes-all f.shape.page_size c.blocks t.shaped.sizes) (omega (arith, t.shaped.blocks)) w.part t.map
          w.low w.high (omega (arith, w.whole, m.long));
    }

pub mapped-named : (f : FrontSeen) (s n s2 n2 p e : ℕ) (draft : List ℕ) (content after : Option Content) → IsMapped f s n content → IsMap (record f { draft = draft; map = with_entry f.map p e }) → p < f.shape.pages
    → after ≡ written (1 + part_of f.shape p) (part f.shape (part_of f.shape p) (with_entry f.map p e)) content → KeepsShape s n s2 n2 after → IsMapped (record f { draft = draft; map = with_entry f.map p e }) s2 n2 after
mapped-named f s n s2 n2 p e draft content after u m lt is k =
    let c = keeps-suits f s n s2 n2 after u.suits k in
    let t = maps-named f p e content u.map lt (subst (Shaped f) is c.told) u.told in
    mapped-with (record f { draft = draft; map = with_entry f.map p e }) s2 n2 after m c (subst (λ v. Maps (record f { map = with_entry f.map p e }) v) (sym is) t)

-- the block of a page was written
pub placed-pages : (f : FrontSeen) (s n p e : ℕ) (x : List ℕ) (content : Option Content) → IsMapped f s n content → p < f.shape.pages → get_or (entries_on f) p 0 ≡ e → e ≢ 0 → e < blocks_of f.shape
    → pages_named f (written e x content) ≡ with_page p x (pages_named f content)
placed-pages f s n p e x None u lt is ne high = refl
placed-pages f s n p e x (Some c) u lt is ne high =
    let good = (map-good f.shape f.map (entries_on f) u.map.good).0 in
    let distinct = (none-apart 4 [] f.shape.page_size (entries_on f) good.twice).1 in
    ap Some (pages-same f.shape.page_size c.blocks x (entries_on f) p e distinct (omega (arith, many-entries f)) is ne (omega (arith, u.told.shaped.blocks)))

-- a block that no entry names was written
pub unnamed-pages : (f : FrontSeen) (b : ℕ) (x : List ℕ) (content : Option Content) → is_in (entries_on f) b ≡ false → pages_named f (written b x content) ≡ pages_named f content
unnamed-pages f b x None free = refl
unnamed-pages f b x (Some c) free = ap Some (pages-free f.shape.page_size c.blocks b x (entries_on f) (all-but b (entries_on f) free))

-- the block of a hole was written, and then the map's block that names it
pub filled-pages : (f : FrontSeen) (s n p b : ℕ) (x y : List ℕ) (content : Option Content) → IsMapped f s n content → p < f.shape.pages → first_data f.shape ≤ b → b < blocks_of f.shape
    → is_in (entries_on f) b ≡ false → entries_in f.shape.pages (with_entry f.map p b) ≡ set (entries_on f) p b → map_in f.shape (with_entry f.map p b) ≡ Ok (entries_in f.shape.pages (with_entry f.map p b))
    → pages_named (record f { map = with_entry f.map p b }) (written (1 + part_of f.shape p) y (written b x content)) ≡ with_page p x (pages_named f content)
filled-pages f s n p b x y None u lt low high free named good = refl
filled-pages f s n p b x y (Some c) u lt low high free named good =
    let w = place f.shape p u.map.fit lt in
    let k = 1 + part_of f.shape p in
    let one = set c.blocks b x in
    let entry = (map-good f.shape (with_entry f.map p b) (entries_in f.shape.pages (with_entry f.map p b)) good).0.entry in
    let away = not-front f.shape k f.shape.page_size (entries_in f.shape.pages (with_entry f.map p b)) entry (λ z. omega arith) (omega (arith, w.part)) in
    let a = pages-free f.shape.page_size one k y (entries_in f.shape.pages (with_entry f.map p b)) away in
    let h = pages-named f.shape.page_size one x (entries_on f) p b (λ z. omega arith) (get_or-set_same c.blocks b x [] (omega (arith, u.told.shaped.blocks))) in
    let r = pages-free f.shape.page_size c.blocks b x (entries_on f) (all-but b (entries_on f) free) in
    ap Some (a ∙ (ap (λ es. pages_of f.shape.page_size one es) named ∙ (h ∙ ap (λ ps. set ps p x) r)))

-- block 0, what is kept, and whether the blocks are told, once another block was written
pub first-written : (b : ℕ) (x : List ℕ) (content : Option Content) → 1 ≤ b → first_in (written b x content) ≡ first_in content
first-written b x None le = refl
first-written b x (Some c) le = ap Some (head-data c.blocks b x le)

pub kept-written : (b : ℕ) (x : List ℕ) (content : Option Content) → kept_in (written b x content) ≡ kept_in content
kept-written b x None = refl
kept-written b x (Some c) = refl

pub told-written : (b : ℕ) (x : List ℕ) (content : Option Content) → is_some (written b x content) ≡ is_some content
told-written b x None = refl
told-written b x (Some c) = refl

-- a map of holes was written
maps-fresh : (f : FrontSeen) (before : Option Content) → IsFresh f → Shaped f (formatted f.shape (map_blocks f.shape) before) → Maps f (formatted f.shape (map_blocks f.shape) before)
maps-fresh f None fresh h = tt
maps-fresh f (Some c) fresh h =
    let room : 1 + map_blocks f.shape ≤ length c.blocks = omega (arith, h.blocks, length-laid f.shape (map_blocks f.shape) c.blocks (omega arith)) in
    record { shaped = h; map = laid-zeros f.shape (map_blocks f.shape) c.blocks (omega arith) room ∙ sym fresh.zeros }

pub mapped-fresh : (f : FrontSeen) (s n s2 n2 : ℕ) (before after : Option Content) → IsFresh f → Suits f.shape s n → KeepsShape s n s2 n2 after → after ≡ formatted f.shape (map_blocks f.shape) before → IsMapped f s2 n2 after
mapped-fresh f s n s2 n2 before after fresh u k e =
    let c = keeps-suits f s n s2 n2 after u k in
    mapped-with f s2 n2 after fresh.map c (subst (Maps f) (sym e) (maps-fresh f before fresh (subst (Shaped f) e c.told)))
