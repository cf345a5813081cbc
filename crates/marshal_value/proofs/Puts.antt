-- One put after another.
use Rattle.std.proofs.Common.{◌≡◌, ℕ, ◌+◌, ◌≤◌, List, [], ◌++◌, length, sym, ap, subst, ◌∙◌, arith, length-append, append_assoc, append-nil}
use Rattle.marshal_buf.specs.declared.door.Door.{Door}
use Rattle.marshal_buf.specs.Held.{Held, Puts}
use Rattle.marshal_buf.specs.Numbers.{number_bytes}
use Rattle.marshal_buf.proofs.NumberLaws.{length-number_bytes}
use Rattle.marshal_value.specs.Tree.{Tree, Trees, one, AsSequence}
use Rattle.marshal_value.specs.Spelling.{count, spelling, spelling_of_all, size_of, size_of_all, doors_of, doors_of_all}
use Rattle.marshal_value.proofs.Trees.{length-spelling}
use Rattle.marshal_value.specs.Room.{HasRoom}

pub Puts-nothing : (held : Held) → Puts [] [] held held
Puts-nothing held = record {
  bytes = sym (append-nil held.bytes);
  doors = sym (append-nil held.doors);
  spare = omega arith;
  spare_doors = omega arith;
}

pub Puts-then : (a b : List ℕ) (d e : List Door) (x y z : Held) → Puts a d x y → Puts b e y z → Puts (a ++ b) (d ++ e) x z
Puts-then a b d e x y z p q = record {
  bytes = q.bytes ∙ ap (λ (t : List ℕ). t ++ b) p.bytes ∙ append_assoc x.bytes a b;
  doors = q.doors ∙ ap (λ (t : List Door). t ++ e) p.doors ∙ append_assoc x.doors d e;
  spare = omega (arith, p.spare, q.spare, length-append a b);
  spare_doors = omega (arith, p.spare_doors, q.spare_doors, length-append d e);
}

-- the room that is left for the next put
pub HasRoom-then : (bytes doors : ℕ) (a : List ℕ) (d : List Door) (x y : Held) → HasRoom (length a + bytes) (length d + doors) x → Puts a d x y → HasRoom bytes doors y
HasRoom-then bytes doors a d x y room p = record {
  within = record {
    bytes_fit = omega (arith, room.within.bytes_fit, ap length p.bytes, length-append x.bytes a);
    doors_fit = omega (arith, room.within.doors_fit, ap length p.doors, length-append x.doors d);
  };
  spare = omega (arith, room.spare, p.spare);
  spare_doors = omega (arith, room.spare_doors, p.spare_doors);
}

pub HasRoom-less : (a b d e : ℕ) (x : Held) → HasRoom a d x → b ≤ a → e ≤ d → HasRoom b e x
HasRoom-less a b d e x room le ld = record {
  within = record {
    bytes_fit = omega (arith, room.within.bytes_fit);
    doors_fit = omega (arith, room.within.doors_fit);
  };
  spare = omega (arith, room.spare);
  spare_doors = omega (arith, room.spare_doors);
}

-- how many doors stand before the next put
pub doors_then : (a : List ℕ) (d : List Door) (x y : Held) → Puts a d x y → length y.doors ≡ length x.doors + length d
doors_then a d x y p = ap length p.doors ∙ length-append x.doors d

-- the count, and then the values
pub Puts_sequence : (n : ℕ) (vs : Trees) (x y z : Held) → n ≡ count vs → Puts (number_bytes 4 n) [] x y → Puts (spelling_of_all (length y.doors) vs) (doors_of_all vs) y z → Puts (spelling (length x.doors) (AsSequence vs)) (doors_of_all vs) x z
Puts_sequence n vs x y z e p q =
    let same : length y.doors ≡ length x.doors = omega (arith, doors_then (number_bytes 4 n) [] x y p) in
    let all = Puts-then (number_bytes 4 n) (spelling_of_all (length y.doors) vs) [] (doors_of_all vs) x y z p q in
    subst (λ (k : ℕ). Puts (number_bytes 4 k ++ spelling_of_all (length x.doors) vs) (doors_of_all vs) x z) e
    (subst (λ (k : ℕ). Puts (number_bytes 4 n ++ spelling_of_all k vs) (doors_of_all vs) x z) same all)

pub HasRoom_sequence : (n : ℕ) (vs : Trees) (x y : Held) → HasRoom (size_of (AsSequence vs)) (length (doors_of_all vs)) x → Puts (number_bytes 4 n) [] x y → HasRoom (size_of_all vs) (length (doors_of_all vs)) y
HasRoom_sequence n vs x y room p =
    HasRoom-then (size_of_all vs) (length (doors_of_all vs)) (number_bytes 4 n) [] x y
    (HasRoom-less _ _ _ _ x room (omega (arith, length-number_bytes 4 n)) (omega arith)) p

-- the first value, and then the others
pub Puts_first : (v : Tree) (vs : Trees) (x y z : Held) → Puts (spelling (length x.doors) v) (doors_of v) x y → Puts (spelling_of_all (length y.doors) vs) (doors_of_all vs) y z → Puts (spelling_of_all (length x.doors) (one v vs)) (doors_of_all (one v vs)) x z
Puts_first v vs x y z p q =
    let all = Puts-then (spelling (length x.doors) v) (spelling_of_all (length y.doors) vs) (doors_of v) (doors_of_all vs) x y z p q in
    subst (λ (k : ℕ). Puts (spelling (length x.doors) v ++ spelling_of_all k vs) (doors_of v ++ doors_of_all vs) x z) (doors_then (spelling (length x.doors) v) (doors_of v) x y p) all

pub HasRoom_first : (v : Tree) (vs : Trees) (x : Held) → HasRoom (size_of_all (one v vs)) (length (doors_of_all (one v vs))) x → HasRoom (size_of v) (length (doors_of v)) x
HasRoom_first v vs x room = HasRoom-less _ _ _ _ x room (omega arith) (omega (arith, length-append (doors_of v) (doors_of_all vs)))

pub HasRoom_others : (v : Tree) (vs : Trees) (x y : Held) → HasRoom (size_of_all (one v vs)) (length (doors_of_all (one v vs))) x → Puts (spelling (length x.doors) v) (doors_of v) x y → HasRoom (size_of_all vs) (length (doors_of_all vs)) y
HasRoom_others v vs x y room p =
    HasRoom-then (size_of_all vs) (length (doors_of_all vs)) (spelling (length x.doors) v) (doors_of v) x y
    (HasRoom-less _ _ _ _ x room (omega (arith, length-spelling (length x.doors) v)) (omega (arith, length-append (doors_of v) (doors_of_all vs)))) p
