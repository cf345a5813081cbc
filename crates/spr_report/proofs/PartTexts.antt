-- The parts of clients and of files, each by itself and one after another.
use Rattle.std.proofs.Common.{◌≡◌, ℕ, zero, suc, ◌+◌, ◌<◌, ◌≤◌, List, [], ◌∷◌, ◌++◌, append_assoc, drop, length, map, slice_get, get_or, Option, Some, Result, Ok, Err, IfOk, IsOk, refl, sym, ap, ◌∙◌, subst, arith}
use Rattle.std.proofs.lemmas.List.{drop_more, drop_all, append-nil, length-map}
use Rattle.std.proofs.lemmas.Option.{get_or_from_slice_get, same_Some, slice_get_read, slice_get_within}
use Rattle.pager_channel.specs.declared.numbers.Ops.{Ops}
use Rattle.stack_accept.specs.declared.entries.FileEntry.{FileEntry}
use Rattle.stack_accept.specs.Mount.{Mount}
use Rattle.tower_log.specs.declared.logged.Logged.{Logged}
use Rattle.tower_log.specs.Trail.{TrailSeen}
use Rattle.spr_report.specs.Tracing.{AreReported, IsReported}
use Rattle.script_text.specs.declared.script.ClientLine.{ClientLine}
use Rattle.script_text.specs.declared.script.Said.{Said}
use Rattle.spr_report.specs.Report.{IsClientText, IsFileText, client_part, client_parts, file_part, file_parts}
use Rattle.spr_report.proofs.Traces.{reported_at, reported_inside}

-- the logs from a place on can be reported as those of the files from there on
reported_drop : (mount : Mount) (files : List FileEntry) (logs : List TrailSeen) (i : ℕ) → AreReported mount files (map (λ t. t.log) logs) → AreReported mount (drop i files) (map (λ t. t.log) (drop i logs))
reported_drop mount files logs zero are = are
reported_drop mount [] [] (suc i) are = are
reported_drop mount [] (log ∷ logs) (suc i) are = absurd are
reported_drop mount (file ∷ files) [] (suc i) are = absurd are
reported_drop mount (file ∷ files) (log ∷ logs) (suc i) are = reported_drop mount files logs i are.1

pub has_log : (mount : Mount) (logs : List TrailSeen) (i : ℕ) → i < length mount.files → AreReported mount mount.files (map (λ t. t.log) logs) → i < length logs
has_log mount logs i inside are = reported_inside mount mount.files logs i inside (reported_drop mount mount.files logs i are)

-- the log of a file can be reported
pub log_reported : (mount : Mount) (logs : List TrailSeen) (i : ℕ) (file : FileEntry) (log : TrailSeen) → i < length mount.files → file ≡ get_or mount.files i file → AreReported mount mount.files (map (λ t. t.log) logs) → IsReported mount file (get_or logs i log).log
log_reported mount logs i file log inside is are =
    reported_at mount mount.files logs i file log inside (has_log mount logs i inside are) is (reported_drop mount mount.files logs i are)

pub get_map : {A B : Type 0} (f : A → B) (xs : List A) (k : ℕ) (x : A) → slice_get xs k ≡ Some x → slice_get (map f xs) k ≡ Some (f x)
get_map f [] k x at = absurd (cc at)
get_map f (y ∷ ys) zero x at = ap (λ z. Some (f z)) (same_Some y x at)
get_map f (y ∷ ys) (suc k) x at = get_map f ys k x at

-- what was put of a file with its log is the text of its part
pub file_text_is : (callers : List (List ℕ)) (mount : Mount) (traced : Option Ops) (logs : List TrailSeen) (i : ℕ) (file : FileEntry) (log : TrailSeen) (text : List ℕ)
    → i < length mount.files → file ≡ get_or mount.files i file → log ≡ get_or logs i log → AreReported mount mount.files (map (λ t. t.log) logs)
    → text ≡ file_part callers mount traced i file log.log → IsFileText callers mount traced (map (λ t. t.log) logs) i text
file_text_is callers mount traced logs i file log text inside file_is log_is are is = record {
  file = file;
  log = log.log;
  file_is = slice_get_read mount.files (length mount.files) i file refl inside file_is;
  log_is = get_map (λ (t : TrailSeen). t.log) logs i log (slice_get_read logs (length logs) i log refl (has_log mount logs i inside are) log_is);
  text_is = is;
}

drop_at : {A : Type 0} (xs : List A) (k : ℕ) (x : A) → slice_get xs k ≡ Some x → drop k xs ≡ x ∷ drop (k + 1) xs
drop_at xs k x at = drop_more xs k x (slice_get_within xs k x at) ∙ ap (λ (y : _). y ∷ drop (k + 1) xs) (get_or_from_slice_get xs k x x at)

-- the parts from a place on: the first of them, and those behind it
parts_next : (callers : List (List ℕ)) (mount : Mount) (traced : Option Ops) (logs : List (List Logged)) (i : ℕ) (text : List ℕ) (is : IsFileText callers mount traced logs i text)
    → file_parts callers mount traced i (drop i mount.files) (drop i logs) ≡ text ++ file_parts callers mount traced (i + 1) (drop (i + 1) mount.files) (drop (i + 1) logs)
parts_next callers mount traced logs i text is =
    let files' = drop (i + 1) mount.files in
    let logs' = drop (i + 1) logs in
    ap (λ (fs : List FileEntry). file_parts callers mount traced i fs (drop i logs)) (drop_at mount.files i is.file is.file_is)
    ∙ (ap (λ (ls : List (List Logged)). file_parts callers mount traced i (is.file ∷ files') ls) (drop_at logs i is.log is.log_is)
    ∙ (ap (λ n. file_part callers mount traced i is.file is.log ++ file_parts callers mount traced n files' logs') (omega arith)
    ∙ ap (λ (bs : List ℕ). bs ++ file_parts callers mount traced (i + 1) files' logs') (sym is.text_is)))

-- one more part is written, and what is left is shorter by it
pub parts_step : (callers : List (List ℕ)) (mount : Mount) (traced : Option Ops) (logs : List (List Logged)) (i : ℕ) (text old new whole : List ℕ) → IsFileText callers mount traced logs i text
    → old ++ file_parts callers mount traced i (drop i mount.files) (drop i logs) ≡ whole → new ≡ old ++ text
    → new ++ file_parts callers mount traced (i + 1) (drop (i + 1) mount.files) (drop (i + 1) logs) ≡ whole
parts_step callers mount traced logs i text old new whole is before put =
    let left = file_parts callers mount traced (i + 1) (drop (i + 1) mount.files) (drop (i + 1) logs) in
    ap (λ (bs : List ℕ). bs ++ left) put ∙ (append_assoc old text left ∙ (ap (λ (bs : List ℕ). old ++ bs) (sym (parts_next callers mount traced logs i text is)) ∙ before))

-- at the end nothing is left
pub parts_end : (callers : List (List ℕ)) (mount : Mount) (traced : Option Ops) (logs : List (List Logged)) (i : ℕ) (old whole : List ℕ) → length mount.files ≤ i
    → old ++ file_parts callers mount traced i (drop i mount.files) (drop i logs) ≡ whole → old ≡ whole
parts_end callers mount traced logs i old whole past all =
    sym (append-nil old) ∙ (ap (λ (fs : List FileEntry). old ++ file_parts callers mount traced i fs (drop i logs)) (sym (drop_all i mount.files past)) ∙ all)

-- the same of a text for which there was memory
pub parts_put : {V E : Type 0} (items : V → List ℕ) (callers : List (List ℕ)) (mount : Mount) (traced : Option Ops) (logs : List (List Logged)) (i : ℕ) (text : Result V E) (old new whole : List ℕ)
    → IfOk text (λ bytes. IsFileText callers mount traced logs i (items bytes)) → IsOk text → IfOk text (λ bytes. new ≡ old ++ items bytes)
    → old ++ file_parts callers mount traced i (drop i mount.files) (drop i logs) ≡ whole
    → new ++ file_parts callers mount traced (i + 1) (drop (i + 1) mount.files) (drop (i + 1) logs) ≡ whole
parts_put items callers mount traced logs i (Ok bytes) old new whole is there put before = parts_step callers mount traced logs i (items bytes) old new whole is before put
parts_put items callers mount traced logs i (Err err) old new whole is there put before = absurd (cc there)

-- the parts of clients from a place on: the first of them, and those behind it
clients_next : (disks : List (List ℕ)) (clients : List ClientLine) (all : List (List Said)) (i : ℕ) (text : List ℕ) (is : IsClientText disks clients all i text)
    → client_parts disks (drop i clients) (drop i all) ≡ text ++ client_parts disks (drop (i + 1) clients) (drop (i + 1) all)
clients_next disks clients all i text is =
    let clients' = drop (i + 1) clients in
    let all' = drop (i + 1) all in
    ap (λ (cs : List ClientLine). client_parts disks cs (drop i all)) (drop_at clients i is.client is.client_is)
    ∙ (ap (λ (ss : List (List Said)). client_parts disks (is.client ∷ clients') ss) (drop_at all i is.said is.said_is)
    ∙ ap (λ (bs : List ℕ). bs ++ client_parts disks clients' all') (sym is.text_is))

-- one more part is written, if there was memory for it, and what is left is shorter by it
pub clients_put : {V E : Type 0} (items : V → List ℕ) (disks : List (List ℕ)) (clients : List ClientLine) (all : List (List Said)) (i : ℕ) (text : Result V E) (old new whole : List ℕ)
    → IfOk text (λ bytes. IsClientText disks clients all i (items bytes)) → IsOk text → IfOk text (λ bytes. new ≡ old ++ items bytes)
    → old ++ client_parts disks (drop i clients) (drop i all) ≡ whole
    → new ++ client_parts disks (drop (i + 1) clients) (drop (i + 1) all) ≡ whole
clients_put items disks clients all i (Ok bytes) old new whole is there put before =
    let left = client_parts disks (drop (i + 1) clients) (drop (i + 1) all) in
    ap (λ (bs : List ℕ). bs ++ left) put ∙ (append_assoc old (items bytes) left ∙ (ap (λ (bs : List ℕ). old ++ bs) (sym (clients_next disks clients all i (items bytes) is)) ∙ before))
clients_put items disks clients all i (Err err) old new whole is there put before = absurd (cc there)

-- at the end nothing is left
pub clients_end : (disks : List (List ℕ)) (clients : List ClientLine) (all : List (List Said)) (i : ℕ) (old whole : List ℕ) → length clients ≤ i
    → old ++ client_parts disks (drop i clients) (drop i all) ≡ whole → old ≡ whole
clients_end disks clients all i old whole past left =
    sym (append-nil old) ∙ (ap (λ (cs : List ClientLine). old ++ client_parts disks cs (drop i all)) (sym (drop_all i clients past)) ∙ left)
