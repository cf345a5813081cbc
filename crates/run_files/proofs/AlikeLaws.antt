-- Two grounds that are told alike: what an engine says of the one is so of the other.
use Rattle.std.proofs.Common.{◌≡◌, ◌⊎◌, inl, inr, ℕ, ◌<◌, ◌≤◌, Bool, true, List, length, Option, Some, None, IfSome, refl, sym, ap, subst, ◌∙◌, arith}
use Rattle.std.specs.Prelude.{Contains, is_some}
use Rattle.std.specs.List.{AllByRecursion}
use Rattle.script_text.specs.declared.script.Reply.{Reply}
use Rattle.script_text.specs.declared.script.Reply.TheVariants.{Done}
use Rattle.stack_accept.specs.Mount.{Mount}
use Rattle.disk_format.specs.Image.{image}
use Rattle.page_ground.specs.Seen.{AreBehind, Imaged, Seen, faults_in, held_in, is_up_in, kept_in, live_in, numbers_in, opened_in}
use Rattle.page_ground.specs.Seen.{pages_in as told_in}
use Rattle.tower_log.specs.declared.logged.Logged.{Logged}
use Rattle.tower_log.specs.Notes.{Rises, counts_of}
use Rattle.stack_engine.specs.Engine.{EngineSeen, events_in, log_in}
use Rattle.stack_engine.specs.Opened.{IsOf, last_from}
use Rattle.spr_volume.specs.Later.{AreLater, IsNoteOf}
use Rattle.script_meaning.specs.Stack.{pages_of}
use Rattle.file_stores.specs.Opening.{shape_of_file}
use Rattle.run_files.specs.Begun.{Holds, HoldsAll, Opening, begun_as, synced_from}
use Rattle.run_files.specs.Leaves.{IsKept}
use Rattle.run_files.specs.Play.{IsWhole}
use Rattle.run_files.proofs.EngineLaws.{EngineRun, IsTurnedIn, behind-of, kept-of, lifts-of, rises-of, same-number, same-size, shows-all, shows-last, shows-of, turned-of}

-- the same pages, and the same of each disk by its number
pub record Alike (s t : Seen) : Type 0 where
  pub size : t.page_size ≡ s.page_size
  pub number : t.number ≡ s.number
  pub pages : t.pages ≡ s.pages
  pub level : t.generation ≡ s.generation
  pub due : t.due ≡ s.due
  pub live : live_in t.disks ≡ live_in s.disks
  pub up : (n : ℕ) → is_up_in t.disks n ≡ is_up_in s.disks n
  pub kept : (n : ℕ) → kept_in t.disks n ≡ kept_in s.disks n
  pub held : (n : ℕ) → held_in t.disks n ≡ held_in s.disks n
  pub faults : (n : ℕ) → faults_in t.disks n ≡ faults_in s.disks n
  pub opened : (n : ℕ) → opened_in t.disks n ≡ opened_in s.disks n

pub alike-self : (s : Seen) → Alike s s
alike-self s = record {
  size = refl;
  number = refl;
  pages = refl;
  level = refl;
  due = refl;
  live = refl;
  up = λ n. refl;
  kept = λ n. refl;
  held = λ n. refl;
  faults = λ n. refl;
  opened = λ n. refl;
}

-- THE DISKS LATER ON
pub later-alike : (more : List Logged) (s u t v : Seen) → Alike s t → Alike u v → numbers_in v.disks ≡ numbers_in t.disks → AreLater more s u → AreLater more t v
later-alike more s u t v a z numbers later = record {
  disks = numbers;
  up = λ n. z.up n ∙ (later.up n ∙ sym (a.up n));
  told = λ n. ap (λ (o : Option (Option Imaged)). is_some o) (z.kept n) ∙ (later.told n ∙ ap (λ (o : Option (Option Imaged)). is_some o) (sym (a.kept n)));
  live = λ n live. was n (later.live n (is n live));
  some = λ some. subst (λ (ns : List ℕ). 0 < length ns) (sym z.live) (later.some (subst (λ (ns : List ℕ). 0 < length ns) a.live some));
  lost = λ n live. elim (later.lost n (subst (λ (ns : List ℕ). Contains ns n) a.live live)) [
    | inl still ↦ inl (subst (λ (ns : List ℕ). Contains ns n) (sym z.live) still)
    | inr up ↦ inr (let x = a.faults n in let y = z.faults n in omega (arith, up, x, y))
  ];
  faults = λ n. let h = later.faults n in let x = a.faults n in let y = z.faults n in omega (arith, h, x, y);
  opened = λ n. z.opened n ∙ (later.opened n ∙ sym (a.opened n));
  aside = λ n down. z.held n ∙ (later.aside n (sym (a.up n) ∙ down) ∙ sym (a.held n));
  level = let h = later.level in let x = a.level in let y = z.level in omega (arith, h, x, y);
  due = let h = later.due in let x = a.due in let y = z.due in omega (arith, h, x, y);
  notes = subst (λ (ns : List ℕ). AllByRecursion (IsNoteOf ns) more) (sym a.live) later.notes;
  paid = λ n live. let h = later.paid n (is n live) in let x = a.faults n in let y = z.faults n in omega (arith, h, x, y);
}
  where
    is : (n : ℕ) → Contains (live_in v.disks) n → Contains (live_in u.disks) n
    is n live = subst (λ (ns : List ℕ). Contains ns n) z.live live

    was : (n : ℕ) → Contains (live_in s.disks) n → Contains (live_in t.disks) n
    was n live = subst (λ (ns : List ℕ). Contains ns n) (sym a.live) live

-- WHAT THE ENGINE OF A FILE LEFT, over grounds that are told as its own
module _ (mount : Mount) (file : ℕ) (s u t v : Seen) (e0 e1 : EngineSeen) (run : EngineRun mount file s u e0 e1) (a : Alike s t) (z : Alike u v) where
  pub ground-size : v.page_size ≡ mount.page_size
  ground-size = z.size ∙ same-size mount file s u e0 e1 run

  pub ground-number : v.number ≡ pages_of mount file
  ground-number = z.number ∙ same-number mount file s u e0 e1 run

  pub ground-rises : (disk : ℕ) → Rises (opened_in t.disks disk) (faults_in v.disks disk) (counts_of disk (log_in e1))
  ground-rises disk = subst (λ n. Rises n (faults_in v.disks disk) (counts_of disk (log_in e1))) (sym (a.opened disk))
      (subst (λ n. Rises (opened_in s.disks disk) n (counts_of disk (log_in e1))) (sym (z.faults disk)) (rises-of mount file s u e0 e1 run disk))

  pub ground-lifts : (from : ℕ) → last_from (events_in e1) ≡ Some from → t.due ≤ v.generation
  ground-lifts from last = let h = lifts-of mount file s u e0 e1 run from last in let x = a.due in let y = z.level in omega (arith, h, x, y)

  pub ground-shows : (opening : Opening) (from : ℕ) → IsOf opening.bytes e0 → last_from (events_in e1) ≡ Some from → IfSome v.pages (Holds (begun_as mount file opening) (log_in e1) from)
  ground-shows opening from of last = subst (λ (o : Option (List (List ℕ))). IfSome o (Holds (begun_as mount file opening) (log_in e1) from)) (sym z.pages) (shows-of mount file s u e0 e1 run opening from of last)

  pub ground-shows-last : (opening : Opening) → IsOf opening.bytes e0 → IfSome v.pages (Holds (begun_as mount file opening) (log_in e1) (synced_from (log_in e1)))
  ground-shows-last opening of = subst (λ (o : Option (List (List ℕ))). IfSome o (Holds (begun_as mount file opening) (log_in e1) (synced_from (log_in e1)))) (sym z.pages) (shows-last mount file s u e0 e1 run opening of)

  pub ground-shows-all : (w : IsWhole e1) (opening : Opening) → IsOf opening.bytes e0 → IfSome v.pages (HoldsAll (begun_as mount file opening) (log_in e1))
  ground-shows-all w opening of = subst (λ (o : Option (List (List ℕ))). IfSome o (HoldsAll (begun_as mount file opening) (log_in e1))) (sym z.pages) (shows-all mount file s u e0 e1 run w opening of)

  pub ground-behind : (opening : Opening) (from : ℕ) → IsOf opening.bytes e0 → last_from (events_in e1) ≡ Some from → AreBehind (Holds (begun_as mount file opening) (log_in e1) from) v
  ground-behind opening from of last disk other i j live up mine its =
      behind-of mount file s u e0 e1 run opening from of last disk other i j (subst (λ (ns : List ℕ). Contains ns disk) z.live live) (sym (z.up other) ∙ up) (sym (z.held disk) ∙ mine) (sym (z.held other) ∙ its)

  pub ground-turned : (opening : Opening) (disk : ℕ) → IsOf opening.bytes e0 → (held_in v.disks disk ≡ held_in t.disks disk) ⊎ IsTurnedIn (begun_as mount file opening) (log_in e1) (held_in t.disks disk) (held_in v.disks disk)
  ground-turned opening disk of = elim (turned-of mount file s u e0 e1 run opening disk of) [
    | inl same ↦ inl (z.held disk ∙ (same ∙ sym (a.held disk)))
    | inr h ↦ inr (record { old = h.old; new = h.new; was = a.held disk ∙ h.was; is = z.held disk ∙ h.is; later = h.later; since = h.since })
  ]

  pub ground-kept : (closing : Option Reply) (opening : Opening) (disk : ℕ) (first : Option (List (List ℕ))) (kept : List (List ℕ)) → IsOf opening.bytes e0 → Contains (live_in v.disks) disk
      → told_in (kept_in t.disks disk) ≡ Some first → kept_in v.disks disk ≡ Some (image (shape_of_file mount file) kept) → (closing ≡ Some Done → IsWhole e1)
      → IsKept (begun_as mount file opening) closing (log_in e1) first kept
  ground-kept closing opening disk first kept of live was is whole =
      kept-of mount file s u e0 e1 run closing opening disk first kept of (subst (λ (ns : List ℕ). Contains ns disk) z.live live) (ap told_in (sym (a.kept disk)) ∙ was) (sym (z.kept disk) ∙ is) whole
