-- Writing into a buffer.
use Rattle.std.proofs.Common.{◌≡◌, ℕ, ◌+◌, ◌-◌, ◌≤◌, List, [], ◌++◌, length, take, drop, sym, refl, ap, ◌∙◌, append_assoc, append-nil, arith, length-append, length-drop}
use Rattle.std.proofs.lemmas.List.{take_at, drop_at, drop-drop, drop_all, take_rest, length-take-le}
use borrow.Rule.Slice.PartMut.{put_mid}
use Rattle.reading.specs.Places.{splice_at}
use Rattle.reading.specs.Splice.{Written}

-- one write, and another into the rest of the buffer behind it
pub then_written : {n m k r : ℕ} {a b out mid rest : List ℕ} → length a ≡ n → Written n a out mid k → Written m b (take (length mid - k) (drop k mid)) rest r
    → Written (n + m) (a ++ b) out (put_mid k (length mid - k) mid rest) (k + r)
then_written {n} {m} {k} {r} {a} {b} {out} {mid} {rest} long p q =
    let front : take k mid ≡ a = ap (take k) p.put ∙ take_at a (drop (length a) out) k (omega (arith, p.count)) in
    let behind : take (length mid - k) (drop k mid) ≡ drop (length a) out =
    take_rest mid k ∙ ap (drop k) p.put ∙ drop_at a (drop (length a) out) k (omega (arith, p.count)) in
    let none : drop (length mid - k) (drop k mid) ≡ [] = drop_all (length mid - k) (drop k mid) (omega (arith, length-drop k mid)) in
    record {
      room = omega (arith, p.room, q.room, ap length behind, length-drop (length a) out);
      count = omega (arith, p.count, q.count);
      put = rw (front, none, append-nil, q.put, behind, drop-drop, length-append, append_assoc);
    }

-- what stands from `at` on after a write there, and what stands behind it
pub drop_splice : (at : ℕ) (bs out : List ℕ) → at ≤ length out → drop at (splice_at at bs out) ≡ bs ++ drop (at + length bs) out
drop_splice at bs out h = drop_at (take at out) (bs ++ drop (at + length bs) out) at (length-take-le at out h)

pub drop_behind : (at : ℕ) (bs out : List ℕ) → at ≤ length out → drop (at + length bs) (splice_at at bs out) ≡ drop (at + length bs) out
drop_behind at bs out h =
    sym (drop-drop (length bs) at (splice_at at bs out))
    ∙ ap (drop (length bs)) (drop_splice at bs out h)
    ∙ drop_at bs (drop (at + length bs) out) (length bs) refl
