-- The end of a channel, in the list of the tables.
use Rattle.std.proofs.Common.{◌≡◌, ◌≤◌, ℕ, ◌<◌, sym, ◌∙◌, ap, subst, refl, arith, true, false, List, [], Option}
use Rattle.tower_core.specs.declared.right.Right.{Right}
use Rattle.tower_core.specs.TreeShape.{TreeShape, parent, IsUpper}
use Rattle.layer_laws.specs.Side.{Side}
use Rattle.page_ground.specs.Seen.{Seen, IsFault, faults_in}
use Rattle.page_ground.specs.declared.fault.StoreFault.{StoreFault}
use Rattle.page_messages.specs.declared.kinds.Asked.{Asked}
use Rattle.page_messages.specs.declared.kinds.Called.{Called}
use Rattle.page_messages.specs.declared.paged.About.{About}
use Rattle.page_messages.specs.declared.paged.PagedFile.{PagedFile}
use Rattle.page_messages.specs.Rules.{MayAsk, MayCall, MayObey, MayServe}
use Rattle.coherency_layer.specs.declared.node.Node.{Node}
use Rattle.coherency_layer.specs.Node as layers
use Rattle.coherency_layer.specs.Node.{OnPages, MayCallAbout}
use Rattle.page_exchange.specs.declared.table.Table.{Table}
use Rattle.page_exchange.specs.declared.table.Table.TheVariants.{Layer, Leaf}
use Rattle.page_exchange.specs.Table as tables
use Rattle.page_exchange.specs.Table.{file_of, is_layer, uses_of, IsLeft, MayAskAbout, MayObeyAbout}
use Rattle.page_exchange.specs.Ends.{AllowEnd}
use Rattle.page_exchange.specs.Exchange.{IsAboveChange, IsOwnChange}
use Rattle.page_exchange.specs.Listed.{AreSameTables, AreTablesOf, AreTablesWith, IsTableOf, sides_in, uses_in, uses_seen}
use Rattle.page_exchange.specs.Wire.{WentOver, WireSeen}
use Rattle.page_messages.specs.Written.{Letters}
use Rattle.page_exchange.proofs.Pairs as pairs
use Rattle.page_exchange.proofs.Pairs.{AreTwo}
use Rattle.page_exchange.proofs.Singles as singles
use Rattle.page_exchange.proofs.Singles.{IsOne}

-- what a table allows where the node has nothing
pub table_done : (table : Table) → 0 < (file_of table).pages → ((page : ℕ) → page < (file_of table).pages → MayAsk (tables.side table page) Asked.Done) → uses_of table ≡ [] → MayAskAbout table Asked.Done 0
table_done (Layer node) inside may unused = record { inside = inside; no_leaf = λ e. cc; may = may }
table_done (Leaf leaf) inside may unused = record { inside = inside; may = unused }

pub table_destroyed : (table : Table) → ((page : ℕ) → page < (file_of table).pages → MayObey (tables.side table page) Called.Destroy) → uses_of table ≡ [] → MayObeyAbout table Called.Destroy 0
table_destroyed (Layer node) may unused = may
table_destroyed (Leaf leaf) may unused = (refl, unused)

-- an exchange about the channel leaves both tables
pub own_left : (own own' : Table) (right : Right) (down : Option (List ℕ)) → (tables.frames_of own ≡ 0 → is_layer own ≡ true) → IsOwnChange own own' About.Channel right down (uses_of own) → IsLeft own own'
own_left (Layer old) (Layer new) right down kind c = record { same = c.same; sides = c.pages; uses = refl }
own_left (Layer old) (Leaf new) right down kind c = absurd (let no : false ≡ true = c.same.kind in let f : ⊥ = cc in f)
own_left (Leaf old) (Layer new) right down kind c = absurd (let no : true ≡ false = c.same.kind in let f : ⊥ = cc in f)
own_left (Leaf old) (Leaf new) right down kind c = record { same = c.same; sides = c.pages; uses = c.uses (λ z. let no : false ≡ true = kind z in let f : ⊥ = cc in f) }

pub above_left : (old new : Node) (node : ℕ) (right : Right) (up : Option (List ℕ)) → IsAboveChange old new node About.Channel right up → layers.IsLeft old new
above_left old new node right up c = record { same = c.same; sides = c.pages }

-- A NODE AND ITS PARENT
module _ (shape : TreeShape) (xs ys : List Table) (node : ℕ) (own own' : Table) (upper upper' : Node) (two : AreTwo xs ys node (parent shape node) own own' upper upper') (pages : ℕ) (with_page : AreTablesWith shape pages 0 xs) where
  own_of : IsTableOf shape with_page.file node own
  own_of = with_page.tables_are.each node own two.old_own

  above_of : IsTableOf shape with_page.file (parent shape node) (Layer upper)
  above_of = with_page.tables_are.each (parent shape node) (Layer upper) two.old_above

  own_pages : (file_of own).pages ≡ pages
  own_pages = ap (λ (f : PagedFile). f.pages) own_of.file_is ∙ with_page.pages_are

  above_pages : upper.file.pages ≡ pages
  above_pages = ap (λ (f : PagedFile). f.pages) above_of.file_is ∙ with_page.pages_are

  kind : tables.frames_of own ≡ 0 → is_layer own ≡ true
  kind z = own_of.layer (sym own_of.frames ∙ z)

  own_unused : uses_in xs node ≡ [] → uses_of own ≡ []
  own_unused unused = sym (ap uses_seen two.old_own) ∙ unused

  pub end_asks : AllowEnd shape (sides_in xs) node pages → uses_in xs node ≡ [] → MayAskAbout own Asked.Done 0
  end_asks allow unused = table_done own (subst (λ (n : ℕ). 0 < n) (sym own_pages) with_page.inside)
      (λ p lt. subst (λ (s : Side). MayAsk s Asked.Done) (pairs.at_own shape xs ys node own own' upper upper' two p) (allow.asks p (subst (λ (n : ℕ). p < n) own_pages lt)).own)
      (own_unused unused)

  pub end_obeys : AllowEnd shape (sides_in xs) node pages → uses_in xs node ≡ [] → MayObeyAbout own Called.Destroy 0
  end_obeys allow unused = table_destroyed own
      (λ p lt. subst (λ (s : Side). MayObey s Called.Destroy) (pairs.at_own shape xs ys node own own' upper upper' two p) (allow.calls p (subst (λ (n : ℕ). p < n) own_pages lt)).own)
      (own_unused unused)

  pub end_serves : IsUpper shape (parent shape node) → AllowEnd shape (sides_in xs) node pages → OnPages upper About.Channel (λ s. MayServe s node true Asked.Done)
  end_serves uq allow = λ p lt. subst (λ (s : Side). MayServe s node true Asked.Done) (pairs.at_above shape xs ys node own own' upper upper' two p) ((allow.asks p (subst (λ (n : ℕ). p < n) above_pages lt)).above uq)

  pub end_knows : IsUpper shape (parent shape node) → AllowEnd shape (sides_in xs) node pages → (layers.side upper 0).kids node ≡ (tables.side own 0).right
  end_knows uq allow = pairs.known_is shape xs ys node own own' upper upper' two 0
      (let may = allow.asks 0 with_page.inside in may.above uq ∙ sym may.own.0)

  pub end_calls : IsUpper shape node → IsUpper shape (parent shape node) → AllowEnd shape (sides_in xs) node pages → MayCallAbout upper node Called.Destroy 0
  end_calls un uq allow = record {
    inside = subst (λ (n : ℕ). 0 < n) (sym above_pages) with_page.inside;
    child_is = (pairs.pair_is shape xs ys node own own' upper upper' two pages 0 with_page un uq).child;
    may = λ p lt. subst (λ (s : Side). MayCall s node Called.Destroy) (pairs.at_above shape xs ys node own own' upper upper' two p) ((allow.calls p (subst (λ (n : ℕ). p < n) above_pages lt)).above uq);
  }

  pub end_still : (right right' : Right) (down up : Option (List ℕ)) → IsOwnChange own own' About.Channel right down (uses_of own) → IsAboveChange upper upper' node About.Channel right' up → AreSameTables xs ys
  end_still right right' down up o a = pairs.still shape xs ys node own own' upper upper' two (own_left own own' right down kind o) (above_left upper upper' node right' up a)

  pub end_over : (wire : WireSeen) (letters : Letters) → WentOver wire (file_of own) letters → (file : PagedFile) → AreTablesOf shape file xs → WentOver wire file letters
  end_over wire letters went file are = subst (λ (f : PagedFile). WentOver wire f letters) (are.each node own two.old_own).file_is went

-- A NODE AND THE GROUND
module _ (shape : TreeShape) (file : PagedFile) (xs ys : List Table) (node : ℕ) (own own' : Table) (tables_are : AreTablesOf shape file xs) (one : IsOne xs ys node own own') where
  alone_of : IsTableOf shape file node own
  alone_of = tables_are.each node own one.old

  alone_pages : (file_of own).pages ≡ file.pages
  alone_pages = ap (λ (f : PagedFile). f.pages) alone_of.file_is

  pub alone_asks : 0 < file.pages → AllowEnd shape (sides_in xs) node file.pages → uses_in xs node ≡ [] → MayAskAbout own Asked.Done 0
  alone_asks some allow unused = table_done own (subst (λ (n : ℕ). 0 < n) (sym alone_pages) some)
      (λ p lt. subst (λ (s : Side). MayAsk s Asked.Done) (singles.at_own shape file xs ys node own own' tables_are one p) (allow.asks p (subst (λ (n : ℕ). p < n) alone_pages lt)).own)
      (sym (ap uses_seen one.old) ∙ unused)

  pub alone_obeys : AllowEnd shape (sides_in xs) node file.pages → uses_in xs node ≡ [] → MayObeyAbout own Called.Destroy 0
  alone_obeys allow unused = table_destroyed own
      (λ p lt. subst (λ (s : Side). MayObey s Called.Destroy) (singles.at_own shape file xs ys node own own' tables_are one p) (allow.calls p (subst (λ (n : ℕ). p < n) alone_pages lt)).own)
      (sym (ap uses_seen one.old) ∙ unused)

  pub alone_left : (right : Right) (down : Option (List ℕ)) → IsOwnChange own own' About.Channel right down (uses_of own) → IsLeft own own'
  alone_left right down c = own_left own own' right down (λ z. alone_of.layer (sym alone_of.frames ∙ z)) c

  pub alone_still : IsLeft own own' → AreSameTables xs ys
  alone_still l = record { sides = singles.left shape file xs ys node own own' tables_are one l; uses = singles.left_uses shape file xs ys node own own' tables_are one l }

  pub alone_over : (wire : WireSeen) (letters : Letters) → WentOver wire (file_of own) letters → WentOver wire file letters
  alone_over wire letters went = subst (λ (f : PagedFile). WentOver wire f letters) alone_of.file_is went

-- a ground that was not called had no fault
pub no_fault : (before after : Seen) (fault : StoreFault) → after ≡ before → IsFault before after fault → ⊥
no_fault before after fault same f =
    let exact : fault.count ≡ faults_in before.disks fault.disk = subst (λ (s : Seen). fault.count ≡ faults_in s.disks fault.disk) same f.exact in
    let above = f.above in
    omega (arith, exact, above)
