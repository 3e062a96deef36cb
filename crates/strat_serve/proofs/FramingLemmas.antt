-- Frames of drawn changes, piece by piece.
use Rattle.std.proofs.Common.{◌≡◌, ℕ, ◌+◌, List, ◌∷◌, ◌++◌, length, sym, ap, ◌∙◌, append_assoc, length-append, arith}
use Rattle.strat_base.specs.Numbers.{be}
use Rattle.strat_base.proofs.NumberLemmas.{length-be}
use Rattle.strat_model.specs.Request.{Put}
use Rattle.strat_model.specs.Spelling.{counted, command_body}
use Rattle.strat_model.specs.Stream.{frame}

-- the length of a field of bytes
pub length-counted : (bytes : List ℕ) → length (counted bytes) ≡ 2 + length bytes
length-counted bytes = omega (arith, length-append (be 2 (length bytes)) bytes, length-be 2 (length bytes))

-- a body's length in front of its tag, opcode and version, and then its fields
pub framed : (n i opcode version : ℕ) (fields : List ℕ) → n ≡ 9 + length fields
    → (be 4 n ++ (be 4 i ++ (opcode ∷ be 4 version))) ++ fields ≡ frame (be 4 i ++ (opcode ∷ (be 4 version ++ fields)))
framed n i opcode version fields len =
    let body : List ℕ = be 4 i ++ (opcode ∷ (be 4 version ++ fields)) in
    let size : n ≡ length body = omega (arith, len, length-append (be 4 i) (opcode ∷ (be 4 version ++ fields)), length-append (be 4 version) fields, length-be 4 i, length-be 4 version) in
    append_assoc (be 4 n) (be 4 i ++ (opcode ∷ be 4 version)) fields
    ∙ ap (λ (x : List ℕ). be 4 n ++ x) (append_assoc (be 4 i) (opcode ∷ be 4 version) fields)
    ∙ ap (λ (m : ℕ). be 4 m ++ body) size

-- where it has no fields
pub framed_short : (i opcode version : ℕ) → be 4 9 ++ (be 4 i ++ (opcode ∷ be 4 version)) ≡ frame (be 4 i ++ (opcode ∷ be 4 version))
framed_short i opcode version =
    let body : List ℕ = be 4 i ++ (opcode ∷ be 4 version) in
    let size : 9 ≡ length body = omega (arith, length-append (be 4 i) (opcode ∷ be 4 version), length-be 4 i, length-be 4 version) in
    ap (λ (m : ℕ). be 4 m ++ body) size

-- a put, of which the key is added and then the value
pub framed_put : (n i version : ℕ) (key value out : List ℕ) → n ≡ 13 + length key + length value
    → out ≡ ((be 4 n ++ (be 4 i ++ (1 ∷ be 4 version))) ++ counted key) ++ counted value → out ≡ frame (command_body i (Put version key value))
framed_put n i version key value out len parts =
    let fields : List ℕ = counted key ++ counted value in
    let size : n ≡ 9 + length fields = omega (arith, len, length-append (counted key) (counted value), length-counted key, length-counted value) in
    parts ∙ append_assoc (be 4 n ++ (be 4 i ++ (1 ∷ be 4 version))) (counted key) (counted value) ∙ framed n i 1 version fields size
    ∙ ap (λ (x : List ℕ). frame (be 4 i ++ (1 ∷ x))) (sym (append_assoc (be 4 version) (counted key) (counted value)))
