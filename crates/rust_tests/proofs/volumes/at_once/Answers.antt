use denote.Param.Send.{AllSend, IsSend, IsSync, arg_send, mut_send, param_send, shr_send}
use denote.RattleType.{RattleType}
use Rattle.std.proofs.Common.{List, [], ◌∷◌}
use Rattle.std.proofs.Crossing as heap
use Rattle.disk_layer.specs.contracts.layer.Disk as Disk
use Rattle.disk_layer.specs.contracts.layer.DiskGround.TheImpl as ground
use Rattle.disk_layer.proofs.layer.Disk.TheSendSync as disk
use Rattle.spr_io.specs.contracts.memory.MemStore as MemStore
use Rattle.spr_io.specs.contracts.memory.MemStoreStore.TheImpl as store
use Rattle.spr_io.proofs.memory.MemStore.TheSendSync as memory
use Rattle.spr_volume.specs.contracts.shared_files.FilesPass as FilesPass
use Rattle.spr_volume.specs.contracts.shared_files.SharedFiles as SharedFiles
use Rattle.spr_volume.proofs.FilesCrossing.{closure_send, pass_send, volume_sync}
use Rattle.rust_tests.proofs.volumes.HoldingGate.TheSendSync as gate
use Rattle.rust_tests.proofs.volumes.Scene.TheSendSync as scene
use Rattle.rust_tests.proofs.volumes.at_once.Goals as goal

ram_send : IsSend (Disk.the_row MemStore.the_row store.ghosts)
ram_send = disk.the_send MemStore.the_row store.ghosts memory.the_send

pass_crosses : IsSend (FilesPass.the_row (Disk.the_row MemStore.the_row store.ghosts) (ground.ghosts MemStore.the_row store.ghosts ground.no_dict ground.no_dict))
pass_crosses = pass_send (Disk.the_row MemStore.the_row store.ghosts) (ground.ghosts MemStore.the_row store.ghosts ground.no_dict ground.no_dict) ram_send

volume_crosses : IsSync (SharedFiles.the_row (Disk.the_row MemStore.the_row store.ghosts) (ground.ghosts MemStore.the_row store.ghosts ground.no_dict ground.no_dict))
volume_crosses = volume_sync (Disk.the_row MemStore.the_row store.ghosts) (ground.ghosts MemStore.the_row store.ghosts ground.no_dict ground.no_dict) ram_send

all_six : (A B C D E F : RattleType) → IsSend A → IsSend B → IsSend C → IsSend D → IsSend E → IsSend F → AllSend (A ∷ B ∷ C ∷ D ∷ E ∷ F ∷ [])
all_six A B C D E F a b c d e f = (a, (b, (c, (d, (e, (f, tt))))))

pub join_mut-requires-send-F : goal.join_mut-requires-send-F
join_mut-requires-send-F g c κs within = search (param_send, arg_send, closure_send, all_six, shr_send, mut_send, pass_crosses, volume_crosses, gate.the_sync, scene.the_sync, heap.sync) depth 8
