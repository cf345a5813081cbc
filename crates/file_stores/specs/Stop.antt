-- What a command writes that ends before its work, without the line of its status.
use Rattle.std.specs.Prelude.{List, ℕ, [], ◌∷◌, ◌++◌, codes}
use Rattle.std.specs.List.{flat_map}
use Rattle.std.specs.Fmt.{decimal}
use Rattle.text_words.specs.Lines.{line_of}
use Rattle.stack_accept.specs.Mount.{Mount}
use Rattle.script_meaning.specs.declared.store.StoreKey.{StoreKey}
use Rattle.script_meaning.specs.Stack.{disk_name, file_name}
use Rattle.spr_report.specs.Report.{lost_line}
use Rattle.spr_report.specs.declared.status.Status.{Status}
use Rattle.spr_report.specs.declared.status.Status.TheVariants as statuses
use Rattle.disk_format.specs.declared.why.ImageWhy.{ImageWhy}
use Rattle.disk_format.specs.Why.{word_of}
use Rattle.disk_layer.specs.declared.refused.OpenWhy.{OpenWhy}
use Rattle.disk_layer.specs.declared.refused.OpenWhy.TheVariants as whys
use Rattle.file_stores.specs.declared.stop.Stop.{Stop}
use Rattle.file_stores.specs.declared.stop.Stop.TheVariants as stops

-- the line of a store that holds no image
abbrev pub no_image_line : Mount → StoreKey → ℕ → ImageWhy → List ℕ
no_image_line mount key place why = line_of (codes "image" ∷ disk_name mount key.disk ∷ file_name mount key.file ∷ decimal place ∷ word_of why ∷ [])

-- the line of a store that failed
abbrev pub fault_line : Mount → StoreKey → ℕ → List ℕ
fault_line mount key count = line_of (codes "store" ∷ disk_name mount key.disk ∷ decimal count ∷ [])

-- the line that says why a command stopped; if memory ran out there is none
abbrev pub cause_text : Mount → Stop → List ℕ
cause_text mount (stops.Bay key) = lost_line mount key
cause_text mount (stops.Store key count) = fault_line mount key count
cause_text mount (stops.Image key place why) = no_image_line mount key place why
cause_text mount stops.Memory = []

-- a line for each store that is lost
abbrev pub lost_text : Mount → List StoreKey → List ℕ
lost_text mount lost = flat_map (lost_line mount) lost

abbrev pub stop_text : Mount → Stop → List StoreKey → List ℕ
stop_text mount stop lost = cause_text mount stop ++ lost_text mount lost

abbrev pub stop_status : Stop → Status
stop_status (stops.Bay key) = statuses.BayFault
stop_status (stops.Store key count) = statuses.Faulted
stop_status (stops.Image key place why) = statuses.BadImage
stop_status stops.Memory = statuses.Memory

-- why a command stops that was refused the disk on a store
abbrev pub refused : StoreKey → OpenWhy → Stop
refused key (whys.BadImage bad blank) = stops.Image key bad.place bad.why
refused key (whys.StoreFault fault) = stops.Store key fault.count
refused key whys.Memory = stops.Memory
