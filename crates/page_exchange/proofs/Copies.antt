-- A page of which a node of the list has a right: it is one of the file's, and its copy is a page.
use Rattle.std.specs.Prelude.{slice_get, IsSome}
use Rattle.std.proofs.Common.{◌≡◌, ◌≢◌, ℕ, ◌<◌, inl, inr, sym, ◌∙◌, ap, subst, refl, arith, List, length, Option, Some, None}
use Rattle.std.proofs.lemmas.Option.{slice_get_cases, slice_get_within}
use Rattle.tower_core.specs.declared.right.Right.{Right}
use Rattle.tower_core.specs.TreeShape.{TreeShape}
use Rattle.page_messages.specs.declared.paged.PagedFile.{PagedFile}
use Rattle.page_messages.specs.declared.slot.Slot.{Slot}
use Rattle.coherency_layer.proofs.Tables.{side_kept}
use Rattle.page_messages.specs.Seen.{side_seen as slot_seen}
use Rattle.vmm_cache.specs.declared.leaf.Leaf.{Leaf as LeafTable}
use Rattle.vmm_cache.specs.Frames.{slot_in, IsFramed}
use Rattle.page_exchange.specs.declared.table.Table.{Table}
use Rattle.page_exchange.specs.declared.table.Table.TheVariants.{Layer, Leaf}
use Rattle.page_exchange.specs.Table.{file_of, side}
use Rattle.page_exchange.specs.Listed.{side_seen, sides_in, AreTablesOf}

-- a page that a leaf holds has a frame
leaf_framed : (leaf : LeafTable) (page : ℕ) → (side (Leaf leaf) page).right ≢ Right.Nothing → IsFramed leaf.file page (side (Leaf leaf) page)
leaf_framed leaf page some = by (slot_in leaf.held page) refl
  where
    by : (o : Option Slot) → slot_in leaf.held page ≡ o → IsFramed leaf.file page (side (Leaf leaf) page)
    by None e = absurd (some (ap (λ (o : Option Slot). (slot_seen o).right) e))
    by (Some slot) e = leaf.framed page (subst IsSome (sym e) refl)

table_inside : (table : Table) (page : ℕ) → (side table page).right ≢ Right.Nothing → page < (file_of table).pages
table_inside (Layer node) page some = by (slice_get node.slots.items page) refl
  where
    by : (o : Option Slot) → slice_get node.slots.items page ≡ o → page < node.file.pages
    by None e = absurd (some (ap (λ (o : Option Slot). (slot_seen o).right) e))
    by (Some slot) e = let within = slice_get_within node.slots.items page slot e in omega (arith, within, node.whole, node.slots.ok.0)
table_inside (Leaf leaf) page some = (leaf_framed leaf page some).inside

table_long : (table : Table) (page : ℕ) → (side table page).right ≢ Right.Nothing → length (side table page).copy ≡ (file_of table).page_size
table_long (Layer node) page some = (side_kept node page (table_inside (Layer node) page some)).held some
table_long (Leaf leaf) page some = (leaf_framed leaf page some).kept.held some

module _ (shape : TreeShape) (file : PagedFile) (xs : List Table) (tables : AreTablesOf shape file xs) (page node : ℕ) (some : (sides_in xs page node).right ≢ Right.Nothing) where
  pub held_inside : page < file.pages
  held_inside = elim (slice_get_cases xs node).1 [
    | inl t ↦ subst (λ (f : PagedFile). page < f.pages) (tables.each node t.0 t.2).file_is (table_inside t.0 page (λ none. some (ap (λ (o : Option Table). (side_seen o page).right) t.2 ∙ none)))
    | inr t ↦ absurd (some (ap (λ (o : Option Table). (side_seen o page).right) t.1))
  ]

  pub copy_long : length (sides_in xs page node).copy ≡ file.page_size
  copy_long = elim (slice_get_cases xs node).1 [
    | inl t ↦ ap (λ (o : Option Table). length (side_seen o page).copy) t.2
        ∙ table_long t.0 page (λ none. some (ap (λ (o : Option Table). (side_seen o page).right) t.2 ∙ none))
        ∙ ap (λ (f : PagedFile). f.page_size) (tables.each node t.0 t.2).file_is
    | inr t ↦ absurd (some (ap (λ (o : Option Table). (side_seen o page).right) t.1))
  ]
