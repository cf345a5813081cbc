-- Open files that were closed, and their stores given back.
use Rattle.std.specs.Prelude.{◌≡◌, ◌<◌, ◌^◌, List, length, Option}
use Rattle.stack_accept.specs.Mount.{Mount}
use Rattle.script_meaning.specs.declared.store.StoreKey.{StoreKey}
use Rattle.spr_io.specs.Berth.{BaySeen}
use Rattle.spr_io.specs.Texts.{SinkSeen}
use Rattle.mirror_layer.specs.declared.came.Notice.{Notice}
use Rattle.stack_engine.specs.Tower.{TowerSeen}
use Rattle.file_stores.specs.Files.{FileSeen, stores_in}
use Rattle.file_stores.specs.Held.{AreGiven, keys_of}
use Rattle.file_stores.specs.Keys.{EachAt, stores_of}
use Rattle.file_stores.specs.Notices.{all_notices}
use Rattle.file_stores.specs.Written.{Offered}
use Rattle.run_files.specs.Held.{AreEnded, AreShut}

-- their stores are those of the stack
pub record HasStores (mount : Mount) (news : List FileSeen) : Type 0 where
  pub keys : keys_of (stores_in news) ≡ stores_of mount
  pub short : EachAt (λ at f. length f.stores < 2 ^ 32) news

-- THE TOWERS WERE CLOSED: these are the files' stores as they were given back, but for those that are lost, and what was told of their disks
pub record AreClosed (mount : Mount) (towers : List TowerSeen) (mades : List (List (Option Notice))) (before after : BaySeen) (lost : List StoreKey) (was is : SinkSeen) : Type 0 where
  pub news : List FileSeen
  pub told : List (List (Option Notice))
  pub shut : AreShut 0 towers news
  pub ended : AreEnded 0 towers news mades told
  pub given : AreGiven mount before after (stores_in news) lost
  pub offered : Offered (all_notices mount told) was is
