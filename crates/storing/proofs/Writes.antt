-- How calls are written, one behind the other.
use Rattle.std.proofs.Common.{◌≡◌, ℕ, ◌+◌, ◌-◌, ◌≤◌, List, [], ◌++◌, length, take, drop, sym, ap, ◌∙◌, append_assoc, append-nil, arith, length-append, length-drop, length-take-le}
use Rattle.std.proofs.lemmas.List.{take_at, drop_at, drop-drop, drop_all, take_rest}
use borrow.Rule.Slice.PartMut.{put_mid}
use Rattle.reading.specs.Splice.{splice, Written}

-- some bytes from `at` on, and more behind them: all of them from `at` on
pub written_on : (at r : ℕ) (b more out rest : List ℕ) → at ≤ length out → Written (length b) b (take (length out - at) (drop at out)) rest r
    → take (at + r) (put_mid at (length out - at) out rest) ++ splice more (drop (at + r) (put_mid at (length out - at) out rest)) ≡ take at out ++ splice (b ++ more) (drop at out)
written_on at r b more out rest h w =
    let behind : take (length out - at) (drop at out) ≡ drop at out = take_rest out at in
    let none : drop (length out - at) (drop at out) ≡ [] = drop_all (length out - at) (drop at out) (omega (arith, length-drop at out)) in
    let tail : List ℕ = drop (length b) (drop at out) in
    let whole : put_mid at (length out - at) out rest ≡ (take at out ++ b) ++ tail = rw (none, append-nil, w.put, behind, append_assoc) in
    let front : length (take at out ++ b) ≡ at + r = length-append (take at out) b ∙ omega (arith, w.count, length-take-le at out h) in
    let first : take (at + r) (put_mid at (length out - at) out rest) ≡ take at out ++ b = ap (take (at + r)) whole ∙ take_at (take at out ++ b) tail (at + r) front in
    let last : drop (at + r) (put_mid at (length out - at) out rest) ≡ tail = ap (drop (at + r)) whole ∙ drop_at (take at out ++ b) tail (at + r) front in
    rw (first, last, append_assoc, length-append, drop-drop) (ap (λ l. take at out ++ l) (sym (append_assoc b more _)))
