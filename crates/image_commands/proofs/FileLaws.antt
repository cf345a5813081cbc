-- The pages of a file, read from its stores.
use Rattle.std.proofs.Common.{◌≡◌, ⊎_elim, ℕ, ◌*◌, Bool, true, false, List, [], ◌∷◌, ◌++◌, length, Option, Some, IfSome, refl, sym, ap, subst, ◌∙◌, arith}
use Rattle.std.specs.Prelude.{is_some, slice_get}
use Rattle.stack_accept.specs.Mount.{Mount}
use Rattle.script_meaning.specs.declared.store.StoreKey.{StoreKey}
use Rattle.script_meaning.specs.Stack.{pages_of}
use Rattle.spr_io.specs.Content.{Content}
use Rattle.spr_io.specs.Berth.{BaySeen}
use Rattle.spr_io.specs.Texts.{SinkSeen}
use Rattle.spr_report.specs.declared.status.Status.{Status}
use Rattle.spr_report.specs.Writing.{Finishes}
use Rattle.disk_format.specs.declared.shape.ImageShape.{ImageShape}
use Rattle.page_ground.specs.declared.fault.StoreFault.{StoreFault}
use Rattle.file_stores.specs.WholeDisk.{Alone}
use Rattle.page_ground.specs.Pages.{cut}
use Rattle.disk_layer.proofs.PageLaws.{length-cut}
use Rattle.mirror_layer.specs.Ground.{Ground, seen_of}
use Rattle.mirror_layer.specs.Stores.{GivesBack}
use Rattle.file_stores.specs.declared.stop.Stop.{Stop}
use Rattle.file_stores.specs.declared.stop.Stop.TheVariants as stops
use Rattle.file_stores.specs.Keys.{image_shape, stores_of_file}
use Rattle.file_stores.specs.State.{StoreState, Returned, RoseBy}
use Rattle.file_stores.specs.Held.{StoreSeen, keys_of, AreOut, AreGiven}
use Rattle.file_stores.specs.Files.{ArePairs, FileSeen, IsFile, Lasts, StandsAt}
use Rattle.file_stores.specs.Stop.{lost_text, stop_text, stop_status}
use Rattle.file_stores.specs.Stops.{Untaken}
use Rattle.mirror_layer.specs.declared.came.Notice.{Notice}
use Rattle.file_stores.specs.Notices.{AreAtClose, notice_lines}
use Rattle.file_stores.proofs.NoticeLaws.{alone-silent}
use Rattle.file_stores.specs.Written.{Written}
use Rattle.file_stores.proofs.Lists.{to-map}
use Rattle.file_stores.proofs.FileLaws.{became-pairs, in-disks}
use Rattle.file_stores.proofs.ReturnLaws.{returned-of}
use Rattle.file_stores.specs.Under.{One, Many, Under}
use Rattle.file_stores.specs.Opening.{IsLeft, IsOpened, content_of, faults_of, shape_of_file}
use Rattle.file_stores.specs.Reading.{AllStay, Calmly, Fails, ReadsAll, shape_under}
use Rattle.file_stores.proofs.AloneLaws.{same-state}
use Rattle.file_stores.proofs.StoreLaws.{alone-lasts, closed-lasts}
use Rattle.image_commands.specs.Pages.{ArePagesOf, page_lines}
use Rattle.image_commands.specs.Read.{ArePagesIn, IsRead, IsUnprinted, Looked, LooksTold, no_text, read_many, read_one, refused_many, refused_one}
use Rattle.image_commands.specs.Says.{FileTurned, PrintsPages, SaysDump, not_printed, not_taken, printed}
use Rattle.image_commands.specs.Told.{done_status}
use Rattle.image_commands.proofs.ReadLaws.{cut-sizes, pages-read}

-- the key of a file's only store
only-key : (mount : Mount) (f : FileSeen) (s : StoreSeen) → IsFile mount f → f.stores ≡ s ∷ [] → s.key ≡ record { file = f.file; disk = 0 }
only-key mount f s is only =
    let here : slice_get f.stores 0 ≡ Some s = ap (λ (l : List StoreSeen). slice_get l 0) only in
    (in-disks (length mount.disks) f.file 0 s.key (subst (λ (l : List StoreKey). slice_get l 0 ≡ Some s.key) is.keys (to-map (λ (x : StoreSeen). x.key) f.stores 0 s here))).0

-- the shape of the image of what was opened over a file's stores
pub shape-opened : (mount : Mount) (f : FileSeen) (made : List (Option Notice)) (u : Under) → IsFile mount f → IsOpened mount f made u → shape_under u ≡ shape_of_file mount f.file
shape-opened mount f made (One d) is opened = opened.2.shape ∙ ap (λ (k : StoreKey). image_shape mount k) (only-key mount f opened.0 is opened.1)
shape-opened mount f made (Many g) is opened = opened.1.over.shaped

-- disks in mirrors were opened, read and closed
abbrev looked-of : (mount : Mount) (refused : Bool) (f g : FileSeen) (made : List (Option Notice)) (a z : Ground) → IsOpened mount f made (Many a) → AllStay refused a z → IsLeft (Many z) g → Looked mount refused f g
looked-of mount refused f g made a z opened stay left = record {
  some = opened.0;
  opened = a;
  over = opened.1.over;
  row = z.row;
  stays = stay.1;
  back = subst (λ bs. GivesBack content_of faults_of bs z.row g.stores) (ap (λ (v : Ground). v.beside) stay.0) left;
}

-- what is told of them
looks-told : (mount : Mount) (refused : Bool) (f g : FileSeen) (made told : List (Option Notice)) (a z : Ground) (opened : IsOpened mount f made (Many a)) (stay : AllStay refused a z) (left : IsLeft (Many z) g) → length made ≡ length f.stores → AreAtClose (Many z) made told
    → LooksTold (looked-of mount refused f g made a z opened stay left) told
looks-told mount refused f g made told a z opened stay left many close = record { made = made; made_so = opened.1.came_so; each = many; told_so = subst (λ (v : Ground). AreAtClose (Many v) made told) stay.0 close }

-- the pages that were read of disks in mirrors
pages-in : (shape : ImageShape) (a : Ground) (bytes : List ℕ) → a.shape ≡ shape → length bytes ≡ shape.pages * shape.page_size → IfSome (seen_of a).pages (λ ps. ps ≡ cut a.shape.page_size a.shape.pages bytes)
    → ArePagesIn shape a (cut shape.page_size shape.pages bytes)
pages-in shape a bytes shaped long read = record {
  number = length-cut shape.page_size shape.pages bytes;
  sizes = cut-sizes shape.page_size shape.pages bytes long;
  told = subst (λ (s : ImageShape). IfSome (seen_of a).pages (λ ps. ps ≡ cut s.page_size s.pages bytes)) shaped read;
}

-- THE PAGES OF A FILE WERE READ
pub read-of : (mount : Mount) (f g : FileSeen) (made told : List (Option Notice)) (u v : Under) (bytes : List ℕ) → IsFile mount f → IsOpened mount f made u → ReadsAll u v bytes → IsLeft v g → length bytes ≡ pages_of mount f.file * mount.page_size
    → length made ≡ length f.stores → AreAtClose v made told → IsRead mount told f g (cut mount.page_size (pages_of mount f.file) bytes)
read-of mount f g made told (One d) (One e) bytes is opened reads left long many close =
    let old : StoreSeen = opened.0 in
    let new : StoreSeen = left.0 in
    let over = opened.2 in
    let shape : d.disk.shape ≡ shape_of_file mount f.file = shape-opened mount f made (One d) is opened in
    let own : d.disk.shape ≡ image_shape mount old.key = over.shape in
    let whole : length bytes ≡ d.disk.shape.pages * d.disk.shape.page_size = long ∙ ap (λ (s : ImageShape). s.pages * s.page_size) (sym shape) in
    let content : new.state.content ≡ old.state.content = ap (λ (s : StoreState). s.content) left.2 ∙ (ap (λ (x : Alone). x.disk.content) reads.0 ∙ over.content) in
    let count : new.state.faults ≡ old.state.faults = ap (λ (s : StoreState). s.faults) left.2 ∙ (ap (λ (x : Alone). x.disk.faults) reads.0 ∙ over.calm) in
    let are : ArePagesOf d.disk.shape d.disk.content (cut d.disk.shape.page_size d.disk.shape.pages bytes) = pages-read d.disk bytes over.image whole reads.1 in
    let here : ArePagesOf (image_shape mount old.key) old.state.content (cut d.disk.shape.page_size d.disk.shape.pages bytes) =
    subst (λ (s : ImageShape). ArePagesOf s old.state.content (cut d.disk.shape.page_size d.disk.shape.pages bytes)) own (subst (λ (c : Option Content). ArePagesOf d.disk.shape c (cut d.disk.shape.page_size d.disk.shape.pages bytes)) over.content are) in
    read_one {old = old} {new = new} opened.1 left.1 (subst (λ (s : ImageShape). ArePagesOf (image_shape mount old.key) old.state.content (cut s.page_size s.pages bytes)) shape here, same-state new.state old.state content count) (alone-silent close)
read-of mount f g made told (One d) (Many z) bytes is opened reads left long many close = absurd reads.0
read-of mount f g made told (Many a) (One e) bytes is opened reads left long many close = absurd reads.0
read-of mount f g made told (Many a) (Many z) bytes is opened reads left long many close =
    read_many (looked-of mount false f g made a z opened reads.0 left) (looks-told mount false f g made told a z opened reads.0 left many close) (pages-in (shape_of_file mount f.file) a bytes opened.1.over.shaped long reads.1)

-- A READ WAS REFUSED
pub refused-of : (mount : Mount) (f g : FileSeen) (made told : List (Option Notice)) (u v : Under) (fault : StoreFault) → IsFile mount f → IsOpened mount f made u → Fails u v fault → IsLeft v g → length made ≡ length f.stores → AreAtClose v made told
    → IsUnprinted mount told f g (stops.Store (record { file = f.file; disk = fault.disk }) fault.count)
refused-of mount f g made told (One d) (One e) fault is opened fails left many close =
    let old : StoreSeen = opened.0 in
    let new : StoreSeen = left.0 in
    let over = opened.2 in
    let content : new.state.content ≡ old.state.content = ap (λ (s : StoreState). s.content) left.2 ∙ (ap (λ (x : Alone). x.disk.content) fails.0 ∙ over.content) in
    let count : new.state.faults ≡ e.disk.faults = ap (λ (s : StoreState). s.faults) left.2 in
    let calm : d.disk.faults ≡ old.state.faults = over.calm in
    let above = fails.2 in
    let within = fails.3 in
    let only : old.key ≡ record { file = f.file; disk = 0 } = only-key mount f old is opened.1 in
    let disk : fault.disk ≡ 0 = fails.1 ∙ (over.disk ∙ ap (λ (k : StoreKey). k.disk) only) in
    let named : StoreKey = record { file = f.file; disk = fault.disk } in
    let key : named ≡ old.key = ap (λ n. let k : StoreKey = record { file = f.file; disk = n } in k) disk ∙ sym only in
    refused_one {old = old} {new = new} {count = fault.count} opened.1 left.1 (content, record { above = omega (arith, calm, above); within = omega (arith, count, within) }) (ap (λ (k : StoreKey). stops.Store k fault.count) key) (alone-silent close)
refused-of mount f g made told (One d) (Many z) fault is opened fails left many close = absurd fails
refused-of mount f g made told (Many a) (One e) fault is opened fails left many close = absurd fails
refused-of mount f g made told (Many a) (Many z) fault is opened fails left many close =
    refused_many (looked-of mount true f g made a z opened fails.0 left) (looks-told mount true f g made told a z opened fails.0 left many close) fails.1 refl

-- no store's count fell, and what tells goes on telling
pub read-lasts : (mount : Mount) (f g : FileSeen) (made : List (Option Notice)) (u v : Under) → IsFile mount f → IsOpened mount f made u → Calmly u v → keys_of g.stores ≡ stores_of_file (length g.stores) f.file → IsLeft v g → ArePairs Lasts f.stores g.stores
read-lasts mount f g made (One d) (One e) is opened calm keys left =
    let count = ap (λ (x : Alone). x.disk.faults) calm in
    alone-lasts mount f g made d e is opened keys left (omega (arith, count)) (ap (λ (x : Alone). is_some x.disk.content) calm)
read-lasts mount f g made (One d) (Many z) is opened calm keys left = absurd calm
read-lasts mount f g made (Many a) (One e) is opened calm keys left = absurd calm
read-lasts mount f g made (Many a) (Many z) is opened calm keys left = closed-lasts mount f g made a z is opened keys left (ap (λ (x : Ground). x.beside) calm.0)

pub refused-lasts : (mount : Mount) (f g : FileSeen) (made : List (Option Notice)) (u v : Under) (fault : StoreFault) → IsFile mount f → IsOpened mount f made u → Fails u v fault → keys_of g.stores ≡ stores_of_file (length g.stores) f.file → IsLeft v g → ArePairs Lasts f.stores g.stores
refused-lasts mount f g made (One d) (One e) fault is opened fails keys left =
    let above = fails.2 in
    let within = fails.3 in
    alone-lasts mount f g made d e is opened keys left (omega (arith, above, within)) (ap (λ (x : Alone). is_some x.disk.content) fails.0)
refused-lasts mount f g made (One d) (Many z) fault is opened fails keys left = absurd fails
refused-lasts mount f g made (Many a) (One e) fault is opened fails keys left = absurd fails
refused-lasts mount f g made (Many a) (Many z) fault is opened fails keys left = closed-lasts mount f g made a z is opened keys left (ap (λ (x : Ground). x.beside) fails.0.0)

-- the stores of a file came back, and what became of them
pub turned-of : (mount : Mount) (before mid after : BaySeen) (file : ℕ) (old new : FileSeen) (lost : List StoreKey) (P : FileSeen → FileSeen → Type 0) → old.file ≡ file → IsFile mount old → AreOut mount before mid old.stores
    → RoseBy 0 before.faults mid.faults → ArePairs Lasts old.stores new.stores → AreGiven mount mid after new.stores lost → P old new → FileTurned mount before after file lost P
turned-of mount before mid after file old new lost P file_is of out calm lasts given becomes = record {
  old = old;
  new = new;
  file_is = file_is;
  of = of;
  stores = subst (λ (ks : List StoreKey). Returned mount before after ks lost (StandsAt old.stores new.stores)) (of.keys ∙ ap (stores_of_file (length mount.disks)) file_is)
      (returned-of mount before mid after old.stores new.stores lost (StandsAt old.stores new.stores) out calm (became-pairs old.stores new.stores lasts) given);
  becomes = becomes;
}

-- the stores could not be taken
pub dumps-untaken : (mount : Mount) (before after : BaySeen) (file : ℕ) (lost : List StoreKey) (stop : Stop) (old new : SinkSeen) (result : Status) → Untaken mount before after (stores_of_file (length mount.disks) file) lost stop
    → Finishes old new (stop_text mount stop lost) (stop_status stop) result → Written (SaysDump mount before after file []) old new result
dumps-untaken mount before after file lost stop old new result cause ends = record {
  text = stop_text mount stop lost;
  status = stop_status stop;
  says = not_taken stop lost cause refl refl refl;
  ends = ends;
}

-- the pages were not printed
pub dumps-not : (mount : Mount) (before after : BaySeen) (file : ℕ) (told : List (Option Notice)) (lost : List StoreKey) (stop : Stop) (old new : SinkSeen) (result : Status) → FileTurned mount before after file lost (λ f g. IsUnprinted mount told f g stop)
    → Finishes old new (stop_text mount stop lost) (stop_status stop) result → Written (SaysDump mount before after file (notice_lines mount file told)) old new result
dumps-not mount before after file told lost stop old new result cause ends = record {
  text = stop_text mount stop lost;
  status = stop_status stop;
  says = not_printed stop told lost cause refl refl refl;
  ends = ends;
}

-- the pages were read, and memory ran out for their text
unprinted-of : (mount : Mount) (before after : BaySeen) (file : ℕ) (told : List (Option Notice)) (lost : List StoreKey) (pages : List (List ℕ)) → FileTurned mount before after file lost (λ f g. IsRead mount told f g pages)
    → FileTurned mount before after file lost (λ f g. IsUnprinted mount told f g stops.Memory)
unprinted-of mount before after file told lost pages t = record { old = t.old; new = t.new; file_is = t.file_is; of = t.of; stores = t.stores; becomes = no_text t.becomes refl }

-- the pages were read
pub dumps-read : (mount : Mount) (before after : BaySeen) (file : ℕ) (told : List (Option Notice)) (lost : List StoreKey) (pages : List (List ℕ)) (old new : SinkSeen) (result : Status) → FileTurned mount before after file lost (λ f g. IsRead mount told f g pages)
    → PrintsPages mount pages lost old new result → Written (SaysDump mount before after file (notice_lines mount file told)) old new result
dumps-read mount before after file told lost pages old new result turned prints =
    ⊎_elim
    (λ done. record { text = page_lines 0 pages ++ lost_text mount lost; status = done_status lost; says = printed pages told lost turned refl refl refl; ends = done })
    (λ lacked. dumps-not mount before after file told lost stops.Memory old new result (unprinted-of mount before after file told lost pages turned) lacked)
    prints
