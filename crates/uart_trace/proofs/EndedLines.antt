-- Lines that each end with a line feed are lines with a line feed between each two, and one at the end.
use Rattle.std.proofs.Common.{◌≡◌, ◌<◌, ◌-◌, ℕ, List, [], ◌∷◌, ◌++◌, ◌==◌, sym, ap, ◌∙◌, map, length, take, arith}
use Rattle.std.specs.List.{flat_map, slice_split, join_with_byte}
use Rattle.std.proofs.lemmas.List.{append_assoc, append-nil, take_at, length_push}
use Rattle.std.proofs.lemmas.List.Splits.{length-slice_split}
use Rattle.uart_trace.specs.Comments.{uncommented, ended, without_comments}

joined : (line : List ℕ) (lines : List (List ℕ))
    → flat_map ended (line ∷ lines) ≡ join_with_byte 10 (map uncommented (line ∷ lines)) ++ 10 ∷ []
joined line [] = append-nil (ended line)
joined line (next ∷ lines) =
    let rest = join_with_byte 10 (map uncommented (next ∷ lines)) in
    ap (λ after. ended line ++ after) (joined next lines)
    ∙ append_assoc (uncommented line) (10 ∷ []) (rest ++ 10 ∷ [])
    ∙ sym (append_assoc (uncommented line) (10 ∷ rest) (10 ∷ []))

joined_all : (lines : List (List ℕ)) → 0 < length lines
    → flat_map ended lines ≡ join_with_byte 10 (map uncommented lines) ++ 10 ∷ []
joined_all [] some = absurd (omega (arith, some))
joined_all (line ∷ lines) some = joined line lines

-- what is left of the ended lines without their last byte
pub without_last : (script text : List ℕ) (len : ℕ) → len ≡ length text
    → text ≡ flat_map ended (slice_split (λ b. b == 10) script) → take (len - 1) text ≡ without_comments script
without_last script text len len_is is =
    let some : 0 < length (slice_split (λ b. b == 10) script) = omega (arith, length-slice_split (λ b. b == 10) script) in
    let all = is ∙ joined_all (slice_split (λ b. b == 10) script) some in
    let long = len_is ∙ ap length all ∙ length_push (without_comments script) 10 in
    ap (take (len - 1)) all ∙ take_at (without_comments script) (10 ∷ []) (len - 1) (omega (arith, long))
