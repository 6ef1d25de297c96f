-- Laws of bytes written over those of a buffer, piece after piece. Assumes nothing.
use Rattle.std.specs.Prelude.{◌≡◌, List, [], ◌∷◌, ◌++◌, ℕ, suc, ◌+◌, ◌<◌, ◌≤◌, length, take, drop, set}
use Rattle.std.proofs.Common.{sym, ◌∙◌, ap, append_assoc, append-nil, arith, length-append, length-drop, take-append-drop, drop_at, take_at, drop-drop, length-take-le}
use Rattle.std.proofs.Math.Seq.{append_snoc, take-length}
use Rattle.std.proofs.lemmas.List.{take-set-le, set_split}
use Rattle.lists.specs.Bytes.{over}
use Rattle.lists.specs.ByteLoopLaws.{FillLoop, fill_end}

-- nothing written
pub over_none : (at : ℕ) (buf : List ℕ) → over at [] buf ≡ buf
over_none at buf =
    let e : at + 0 ≡ at = omega arith in
    ap (λ (m : List ℕ). m ++ drop (at + 0) buf) (append-nil (take at buf)) ∙ ap (λ (k : ℕ). take at buf ++ drop k buf) e ∙ take-append-drop at buf

-- the last byte, and then the others
pub over_last : (at : ℕ) (b : List ℕ) (x : ℕ) (buf : List ℕ) → at + length b < length buf
    → over at b (set buf (at + length b) x) ≡ over at (b ++ (x ∷ [])) buf
over_last at b x buf h =
    let p = at + length b in
    let t : take at (set buf p x) ≡ take at buf = take-set-le at buf p x (omega arith) in
    let d : drop p (set buf p x) ≡ x ∷ drop (suc p) buf =
    ap (drop p) (set_split buf p x h) ∙ drop_at (take p buf) (x ∷ drop (suc p) buf) p (length-take-le p buf (omega arith)) in
    let n : at + length (b ++ (x ∷ [])) ≡ suc p = omega (arith, length-append b (x ∷ [])) in
    ap (λ (m : List ℕ). m ++ b ++ drop p (set buf p x)) t ∙ ap (λ (m : List ℕ). take at buf ++ b ++ m) d ∙ sym (append_snoc (take at buf ++ b) x (drop (suc p) buf))
    ∙ ap (λ (m : List ℕ). m ++ drop (suc p) buf) (append_assoc (take at buf) b (x ∷ []))
    ∙ ap (λ (k : ℕ). take at buf ++ (b ++ (x ∷ [])) ++ drop k buf) (sym n)

head_length : (at : ℕ) (a buf : List ℕ) → at ≤ length buf → length (take at buf ++ a) ≡ at + length a
head_length at a buf h = length-append (take at buf) a ∙ ap (λ (k : ℕ). k + length a) (length-take-le at buf h)

-- a buffer keeps its length
pub length_over : (at : ℕ) (b buf : List ℕ) → at + length b ≤ length buf → length (over at b buf) ≡ length buf
length_over at b buf h =
    length-append (take at buf ++ b) (drop (at + length b) buf)
    ∙ omega (arith, head_length at b buf (omega arith), length-drop (at + length b) buf)

-- two pieces, one after the other
pub over_over : (at : ℕ) (a b buf : List ℕ) → at + length a ≤ length buf → over (at + length a) b (over at a buf) ≡ over at (a ++ b) buf
over_over at a b buf h =
    let p = at + length a in
    let w = over at a buf in
    let l : length (take at buf ++ a) ≡ p = head_length at a buf (omega arith) in
    let t : take p w ≡ take at buf ++ a = take_at (take at buf ++ a) (drop p buf) p l in
    let d : drop (p + length b) w ≡ drop (p + length b) buf =
    sym (drop-drop (length b) p w) ∙ ap (drop (length b)) (drop_at (take at buf ++ a) (drop p buf) p l) ∙ drop-drop (length b) p buf in
    let n : p + length b ≡ at + length (a ++ b) = omega (arith, length-append a b) in
    ap (λ (m : List ℕ). m ++ b ++ drop (p + length b) w) t ∙ ap (λ (m : List ℕ). take at buf ++ a ++ b ++ m) d
    ∙ ap (λ (m : List ℕ). m ++ drop (p + length b) buf) (append_assoc (take at buf) a b) ∙ ap (λ (k : ℕ). take at buf ++ (a ++ b) ++ drop k buf) n

-- one byte
pub over_byte : (at x : ℕ) (buf : List ℕ) → at < length buf → set buf at x ≡ over at (x ∷ []) buf
over_byte at x buf h =
    let n : at + length (x ∷ []) ≡ suc at = omega arith in
    set_split buf at x h ∙ sym (append_snoc (take at buf) x (drop (suc at) buf)) ∙ ap (λ (k : ℕ). take at buf ++ (x ∷ []) ++ drop k buf) (sym n)

-- the end of a loop that copies all of s
pub filled_over : (at : ℕ) (s buf : List ℕ) (i : ℕ) (out : List ℕ) → FillLoop buf at s (length s) i out → length s ≤ i → out ≡ over at s buf
filled_over at s buf i out h k = fill_end buf at s (length s) i out h k ∙ ap (λ (m : List ℕ). take at buf ++ m ++ drop (at + length s) buf) (take-length s)
