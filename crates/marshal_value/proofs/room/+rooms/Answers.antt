use Rattle.std.proofs.Common.{length, ap, arith}
use Rattle.marshal_value.specs.Spelling.{size_of, doors_of}
use Rattle.marshal_value.proofs.Trees.{at_sequence, at_struct, weight, weight_inside}
use Rattle.marshal_value.proofs.room.+rooms.Goals as goal

pub room_of-room_of_all-requires : goal.room_of-room_of_all-requires
room_of-room_of_all-requires t c =
    let tree = at_sequence c.args.value.now c.in-Sequence.items c.deref.result.now c.in-Sequence.is c.deref.ensures.value in
    omega (arith, ap weight tree)

pub room_of-room_of_all-requires-in-Struct : goal.room_of-room_of_all-requires-in-Struct
room_of-room_of_all-requires-in-Struct t c =
    let tree = at_struct c.args.value.now c.in-Struct.fields c.deref-in-Struct.result.now c.in-Struct.is c.deref-in-Struct.ensures.value in
    omega (arith, ap weight tree)

pub room_of-returns-in-Sequence-clause-bytes : goal.room_of-returns-in-Sequence-clause-bytes
room_of-returns-in-Sequence-clause-bytes t c =
    let tree = at_sequence c.args.value.now c.in-Sequence.items c.deref.result.now c.in-Sequence.is c.deref.ensures.value in
    omega (arith, ap size_of tree)

pub room_of-returns-in-Sequence-clause-doors : goal.room_of-returns-in-Sequence-clause-doors
room_of-returns-in-Sequence-clause-doors t c =
    let tree = at_sequence c.args.value.now c.in-Sequence.items c.deref.result.now c.in-Sequence.is c.deref.ensures.value in
    omega (arith, ap (λ v. length (doors_of v)) tree)

pub room_of-returns-in-Struct-clause-bytes : goal.room_of-returns-in-Struct-clause-bytes
room_of-returns-in-Struct-clause-bytes t c =
    let tree = at_struct c.args.value.now c.in-Struct.fields c.deref-in-Struct.result.now c.in-Struct.is c.deref-in-Struct.ensures.value in
    omega (arith, ap size_of tree)

pub room_of-returns-in-Struct-clause-doors : goal.room_of-returns-in-Struct-clause-doors
room_of-returns-in-Struct-clause-doors t c =
    let tree = at_struct c.args.value.now c.in-Struct.fields c.deref-in-Struct.result.now c.in-Struct.is c.deref-in-Struct.ensures.value in
    omega (arith, ap (λ v. length (doors_of v)) tree)

pub room_of_all-room_of-requires : goal.room_of_all-room_of-requires
room_of_all-room_of-requires t c =
    let inside = weight_inside c.args.values.now c.loop-value.value-index c.value-item.result c.loop-value-test.true c.value-item.is in
    omega (arith, inside)
