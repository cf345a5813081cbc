use Rattle.std.proofs.Common.{◌≡◌, None, length, map, vec_capacity}
use Rattle.run_files.specs.Held.{AreMade}
use Rattle.run_files.proofs.HeldLaws.{Opening}
use Rattle.run_files.proofs.held.open_files.Given as goal

-- which files were opened so far, and what that made of their disks
abbrev pub invariant-loop-file : goal.invariant-loop-file
invariant-loop-file g l = record {
  opening : Opening l.mount l.yielded l.towers.items l.rest.items l.stopped;
  made : l.stopped ≡ None → AreMade l.mount l.yielded l.towers.items (map (λ m. m.items) l.made.items);
  many : length l.made.items ≡ length l.towers.items;
  towers_room : vec_capacity l.towers ≡ vec_capacity l.fn.towers;
  made_room : vec_capacity l.made ≡ vec_capacity l.fn.made;
  rest_room : vec_capacity l.rest ≡ vec_capacity l.fn.rest;
}
