use Rattle.std.proofs.Common.{length, ap, arith}
use Rattle.run_files.proofs.room.room_for_stores.Goals as goal

pub returns-clause-keys : goal.returns-clause-keys
returns-clause-keys g c = c.in_ok-keys.ensures.value

pub returns-clause-taken : goal.returns-clause-taken
returns-clause-taken g c = (c.in_ok-with_capacity.ensures.items, (let room = c.in_ok-with_capacity.ensures.capacity in let len = c.as_slice-stores.ensures.len in let same = ap length c.as_slice-stores.ensures.value in omega (arith, room, len, same)))

pub returns-clause-parts : goal.returns-clause-parts
returns-clause-parts g c = (c.in_ok-with_capacity-2.ensures.items, (let room = c.in_ok-with_capacity-2.ensures.capacity in let same = ap length c.files-number.ensures.value in omega (arith, room, same)))

pub returns-clause-towers : goal.returns-clause-towers
returns-clause-towers g c = (c.in_ok-room_for_files.ensures.towers.0, (let room = c.in_ok-room_for_files.ensures.towers.1 in let same = ap length c.files-number.ensures.value in omega (arith, room, same)))

pub returns-clause-rest : goal.returns-clause-rest
returns-clause-rest g c = (c.in_ok-room_for_files.ensures.rest.0, (let room = c.in_ok-room_for_files.ensures.rest.1 in let same = ap length c.files-number.ensures.value in omega (arith, room, same)))

pub returns-clause-closed : goal.returns-clause-closed
returns-clause-closed g c = (c.in_ok-room_for_files.ensures.closed.0, (let room = c.in_ok-room_for_files.ensures.closed.1 in let same = ap length c.files-number.ensures.value in omega (arith, room, same)))

pub returns-clause-trails : goal.returns-clause-trails
returns-clause-trails g c = (c.in_ok-room_for_files.ensures.trails.0, (let room = c.in_ok-room_for_files.ensures.trails.1 in let same = ap length c.files-number.ensures.value in omega (arith, room, same)))

pub returns-clause-made : goal.returns-clause-made
returns-clause-made g c = (c.in_ok-room_for_files.ensures.made.0, (let room = c.in_ok-room_for_files.ensures.made.1 in let same = ap length c.files-number.ensures.value in omega (arith, room, same)))

pub returns-clause-notices : goal.returns-clause-notices
returns-clause-notices g c = (c.in_ok-room_for_files.ensures.notices.0, (let room = c.in_ok-room_for_files.ensures.notices.1 in let same = ap length c.files-number.ensures.value in omega (arith, room, same)))
