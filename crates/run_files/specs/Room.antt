-- Room for the answers of a run.
use Rattle.std.specs.Prelude.{length}
use Rattle.script_text.specs.declared.script.Script.{Script}
use Rattle.stack_accept.specs.Mount.{Mount}
use Rattle.file_stores.specs.Held.{IsRoom}
use Rattle.run_phases.specs.Workers.{AreStarted, HaveRoom}
use Rattle.run_files.specs.declared.room.Asked.{Asked}

-- the clients of a script before its first phase, with room for all answers
pub record HasAnswerRoom (mount : Mount) (script : Script) (asked : Asked) : Type 0 where
  pub started : AreStarted mount asked.loss 0 script.clients asked.clients.items
  pub answers : HaveRoom script.phases asked.clients.items
  pub said : IsRoom (length script.clients) asked.said
  pub closing : IsRoom (length mount.files) asked.closing
