-- A command that is read is the command that was spelled, and what was spelled is read again.
use Rattle.std.proofs.Common.{◌≡◌, ℕ, ◌^◌, ◌<◌, ◌≤◌, true, cond, leb, eqb, List, [], ◌∷◌, ◌++◌, length, Option, Some, None, refl, sym, ap, subst, ◌∙◌, length-append, arith, inl, inr, ◌⊎◌}
use Rattle.std.proofs.lemmas.Bool.{le-leb, eqb-true}
use Rattle.std.proofs.lemmas.List.{nil_from_length}
use Rattle.std.proofs.lemmas.Option.{cond_some, same_Some, none-some}
use Rattle.std.specs.Option.{option_and_then, option_map}
use Rattle.strat_base.specs.Numbers.{be, AreBytes}
use Rattle.strat_base.proofs.NumberLemmas.{length-be, number-be, be-number_1}
use Rattle.strat_model.specs.declared.replies.Refusal.{Refusal}
use Rattle.strat_model.specs.declared.replies.Refusal.TheVariants as why
use Rattle.strat_model.specs.Answer.{refusal}
use Rattle.strat_model.specs.Request.{Request, Put, Delete, Get, Clone, Scan, Info, OpenCursor, NextPairs, CloseCursor, Stat, DropVersion}
use Rattle.strat_model.specs.Run.{Position, Response, Answers, IsAfter}
use Rattle.strat_model.proofs.FillLemmas.{one_after}
use Rattle.strat_model.specs.Spelling.{counted, command_bytes, command_body, size_refusal, FitsFields, HasForm, Spells, IsMalformed, HasUnlawfulSize, IsRefusedAs, tag_of}
use Rattle.strat_model.specs.Step.{step}
use Rattle.strat_frame.specs.Fields.{number_then, sole_number, sole_long, cursor_limit_in, version_key_in, version_pair_in, version_range_in, request_in, command_in}
use Rattle.strat_frame.proofs.FieldLemmas.{bind_some, map_some, either_arm, no_arm, front_parts, ReadsAll, number_reads, word_reads, sole_reads, sole_long_reads, cursor_limit_reads, version_key_reads, version_pair_reads, version_range_reads}

-- a command whose opcode and fields these are
record IsRequest (opcode : ℕ) (fields : List ℕ) (request : Request) : Type 0 where
  pub text : opcode ∷ fields ≡ command_bytes request
  pub fits : FitsFields request

-- the commands of one opcode
by_fields : {X : Type 0} (code : ℕ) (make : X → Request) (read : List ℕ → Option X) (text : X → List ℕ) (Fits : X → Type 0) → ReadsAll X read text Fits
    → ((x : X) → Fits x → IsRequest code (text x) (make x))
    → (opcode : ℕ) (fields : List ℕ) → AreBytes fields → eqb opcode code ≡ true → (request : Request) → option_map make (read fields) ≡ Some request → IsRequest opcode fields request
by_fields code make read text Fits is makes opcode fields bytes test request e =
    let m = map_some make (read fields) request e in
    let t = is.takes fields m.0 bytes m.1 in
    subst (λ (n : ℕ). IsRequest n fields request) (sym (eqb-true opcode code test))
    (subst (λ (f : List ℕ). IsRequest code f request) (sym t.0)
    (subst (λ (r : Request). IsRequest code (text m.0) r) m.2 (makes m.0 t.1)))

-- the one command without fields
no_fields : (opcode : ℕ) (fields : List ℕ) → eqb opcode 10 ≡ true → (request : Request) → cond (eqb (length fields) 0) (Some Stat) None ≡ Some request → IsRequest opcode fields request
no_fields opcode fields test request e =
    let g = cond_some (eqb (length fields) 0) Stat request e in
    let nothing : fields ≡ [] = nil_from_length fields (eqb-true (length fields) 0 g.0) in
    subst (λ (n : ℕ). IsRequest n fields request) (sym (eqb-true opcode 10 test))
    (subst (λ (f : List ℕ). IsRequest 10 f request) (sym nothing)
    (subst (λ (r : Request). IsRequest 10 [] r) g.1 (record { text = refl; fits = tt })))

request_takes : (opcode : ℕ) (fields : List ℕ) → AreBytes fields → (request : Request) → request_in opcode fields ≡ Some request → IsRequest opcode fields request
unfolding request_in
request_takes opcode fields bytes =
    let Is : Request → Type 0 = λ (r : Request). IsRequest opcode fields r in
    either_arm Is (eqb opcode 1) _ _
    (by_fields 1 (λ x. Put x.0.0 x.0.1 x.1) version_pair_in _ _ version_pair_reads (λ x f. record { text = refl; fits = (f.0.0, f.0.1, f.1) }) opcode fields bytes)
    (either_arm Is (eqb opcode 2) _ _
    (by_fields 2 (λ x. Delete x.0 x.1) version_key_in _ _ version_key_reads (λ x f. record { text = refl; fits = f }) opcode fields bytes)
    (either_arm Is (eqb opcode 3) _ _
    (by_fields 3 (λ x. Get x.0 x.1) version_key_in _ _ version_key_reads (λ x f. record { text = refl; fits = f }) opcode fields bytes)
    (either_arm Is (eqb opcode 4) _ _
    (by_fields 4 Clone sole_number _ _ sole_reads (λ x f. record { text = refl; fits = f }) opcode fields bytes)
    (either_arm Is (eqb opcode 5) _ _
    (by_fields 5 (λ x. Scan x.0.0.0 x.0.0.1 x.0.1 x.1) version_range_in _ _ version_range_reads (λ x f. record { text = refl; fits = (f.0.0.0, f.0.0.1, f.0.1, f.1) }) opcode fields bytes)
    (either_arm Is (eqb opcode 6) _ _
    (by_fields 6 Info sole_number _ _ sole_reads (λ x f. record { text = refl; fits = f }) opcode fields bytes)
    (either_arm Is (eqb opcode 7) _ _
    (by_fields 7 (λ x. OpenCursor x.0.0 x.0.1 x.1) version_pair_in _ _ version_pair_reads (λ x f. record { text = refl; fits = (f.0.0, f.0.1, f.1) }) opcode fields bytes)
    (either_arm Is (eqb opcode 8) _ _
    (by_fields 8 (λ x. NextPairs x.0 x.1) cursor_limit_in _ _ cursor_limit_reads (λ x f. record { text = refl; fits = f }) opcode fields bytes)
    (either_arm Is (eqb opcode 9) _ _
    (by_fields 9 CloseCursor sole_long _ _ sole_long_reads (λ x f. record { text = refl; fits = f }) opcode fields bytes)
    (either_arm Is (eqb opcode 10) _ _ (no_fields opcode fields)
    (either_arm Is (eqb opcode 11) _ _
    (by_fields 11 DropVersion sole_number _ _ sole_reads (λ x f. record { text = refl; fits = f }) opcode fields bytes)
    (no_arm Is)))))))))))

-- what is read is spelled so
pub command_takes : (body : List ℕ) (tag : ℕ) (request : Request) → AreBytes body → command_in body ≡ Some (tag, request) → HasForm body tag request
unfolding command_in
command_takes body tag request fits e =
    let a = bind_some (λ (t : ℕ × List ℕ). option_and_then (λ opcode. option_and_then (λ r. Some (t.0, r)) (request_in opcode.0 opcode.1)) (number_then 1 t.1)) (number_then 4 body) (tag, request) e in
    let b = bind_some (λ (opcode : ℕ × List ℕ). option_and_then (λ r. Some (a.0.0, r)) (request_in opcode.0 opcode.1)) (number_then 1 a.0.1) (tag, request) a.2 in
    let d = bind_some (λ (r : Request). Some (a.0.0, r)) (request_in b.0.0 b.0.1) (tag, request) b.2 in
    let t0 = word_reads.takes body a.0.0 a.0.1 fits a.1 in
    let t1 = (number_reads 1 be-number_1).takes a.0.1 b.0.0 b.0.1 t0.1 b.1 in
    let is = request_takes b.0.0 b.0.1 t1.1 d.0 d.1 in
    let text = front_parts body a.0.1 b.0.1 (command_bytes d.0) a.0.0 b.0.0 t0.0 t1.0 t1.2 is.text in
    let made : HasForm body a.0.0 d.0 = record { text = text; tag_fits = t0.2; fits = is.fits } in
    subst (λ (x : ℕ × Request). HasForm body x.0 x.1) (same_Some (a.0.0, d.0) (tag, request) d.2) made

-- a tag and an opcode in front of fields
front_again : (tag opcode : ℕ) (fields : List ℕ) (request : Request) → tag < 2 ^ 32 → opcode < 256 → request_in opcode fields ≡ Some request → command_in (be 4 tag ++ opcode ∷ fields) ≡ Some (tag, request)
unfolding command_in be
front_again tag opcode fields request tag_fits opcode_fits e =
    let byte : opcode ∷ fields ≡ be 1 opcode ++ fields = ap (λ (n : ℕ). n ∷ fields) (omega arith) in
    rw (word_reads.again tag (opcode ∷ fields) tag_fits) (rw byte (rw ((number_reads 1 be-number_1).again opcode fields opcode_fits, e) refl))

-- what is spelled so is read
command_again : (tag : ℕ) (request : Request) → tag < 2 ^ 32 → FitsFields request → command_in (command_body tag request) ≡ Some (tag, request)
unfolding request_in
command_again tag (Put version key value) tag_fits fits =
    front_again tag 1 ((be 4 version ++ counted key) ++ counted value) (Put version key value) tag_fits (omega arith)
    (ap (option_map (λ (x : (ℕ × List ℕ) × List ℕ). Put x.0.0 x.0.1 x.1)) (version_pair_reads.again ((version, key), value) ((fits.0, fits.1), fits.2)))
command_again tag (Delete version key) tag_fits fits =
    front_again tag 2 (be 4 version ++ counted key) (Delete version key) tag_fits (omega arith)
    (ap (option_map (λ (x : ℕ × List ℕ). Delete x.0 x.1)) (version_key_reads.again (version, key) fits))
command_again tag (Get version key) tag_fits fits =
    front_again tag 3 (be 4 version ++ counted key) (Get version key) tag_fits (omega arith)
    (ap (option_map (λ (x : ℕ × List ℕ). Get x.0 x.1)) (version_key_reads.again (version, key) fits))
command_again tag (Clone version) tag_fits fits =
    front_again tag 4 (be 4 version) (Clone version) tag_fits (omega arith) (ap (option_map Clone) (sole_reads.again version fits))
command_again tag (Info version) tag_fits fits =
    front_again tag 6 (be 4 version) (Info version) tag_fits (omega arith) (ap (option_map Info) (sole_reads.again version fits))
command_again tag Stat tag_fits fits = front_again tag 10 [] Stat tag_fits (omega arith) refl
command_again tag (DropVersion version) tag_fits fits =
    front_again tag 11 (be 4 version) (DropVersion version) tag_fits (omega arith) (ap (option_map DropVersion) (sole_reads.again version fits))
command_again tag (Scan version lo hi limit) tag_fits fits =
    front_again tag 5 (((be 4 version ++ counted lo) ++ counted hi) ++ be 2 limit) (Scan version lo hi limit) tag_fits (omega arith)
    (ap (option_map (λ (x : ((ℕ × List ℕ) × List ℕ) × ℕ). Scan x.0.0.0 x.0.0.1 x.0.1 x.1)) (version_range_reads.again (((version, lo), hi), limit) (((fits.0, fits.1), fits.2), fits.3)))
command_again tag (OpenCursor version lo hi) tag_fits fits =
    front_again tag 7 ((be 4 version ++ counted lo) ++ counted hi) (OpenCursor version lo hi) tag_fits (omega arith)
    (ap (option_map (λ (x : (ℕ × List ℕ) × List ℕ). OpenCursor x.0.0 x.0.1 x.1)) (version_pair_reads.again ((version, lo), hi) ((fits.0, fits.1), fits.2)))
command_again tag (NextPairs cursor limit) tag_fits fits =
    front_again tag 8 (be 8 cursor ++ be 2 limit) (NextPairs cursor limit) tag_fits (omega arith)
    (ap (option_map (λ (x : ℕ × ℕ). NextPairs x.0 x.1)) (cursor_limit_reads.again (cursor, limit) fits))
command_again tag (CloseCursor cursor) tag_fits fits =
    front_again tag 9 (be 8 cursor) (CloseCursor cursor) tag_fits (omega arith) (ap (option_map CloseCursor) (sole_long_reads.again cursor fits))

-- a body is read as the command whose form it has
form_is_read : (body : List ℕ) (tag : ℕ) (request : Request) → HasForm body tag request → command_in body ≡ Some (tag, request)
form_is_read body tag request is = ap command_in is.text ∙ command_again tag request is.tag_fits is.fits

-- what is not read has the form of no command
none_read : (body : List ℕ) (tag : ℕ) (request : Request) → command_in body ≡ None → HasForm body tag request → ⊥
none_read body tag request none is = none-some (tag, request) (sym none ∙ form_is_read body tag request is)

-- a body that is not read is malformed
pub is_malformed : (body : List ℕ) (tag : ℕ) → command_in body ≡ None → tag ≡ tag_of body → IsMalformed body tag
is_malformed body tag none tag_is = record { tag_is = tag_is; none = λ other request is. none_read body other request none is }

-- a body has the form of one command under one tag
pub one_form : (body : List ℕ) (tag other_tag : ℕ) (request other : Request) → HasForm body tag request → HasForm body other_tag other → (tag ≡ other_tag) × (request ≡ other)
one_form body tag other_tag request other a b =
    let parts : (tag, request) ≡ (other_tag, other) = same_Some (tag, request) (other_tag, other) (sym (form_is_read body tag request a) ∙ form_is_read body other_tag other b) in
    (ap (λ (x : ℕ × Request). x.0) parts, ap (λ (x : ℕ × Request). x.1) parts)

-- the tag of a command is its body's
pub form_has_tag : (body : List ℕ) (tag : ℕ) (request : Request) → HasForm body tag request → tag ≡ tag_of body
form_has_tag body tag request is =
    let Tagged : List ℕ → Type 0 = λ (b : List ℕ). tag ≡ tag_of b in
    let long : leb 4 (length (command_body tag request)) ≡ true =
    le-leb 4 (length (command_body tag request)) (omega (arith, length-append (be 4 tag) (command_bytes request), length-be 4 tag)) in
    subst Tagged (sym is.text) (rw long (sym (number-be 4 tag (command_bytes request) is.tag_fits)))

-- a body that is refused is malformed, or a size in it is unlawful
refused_view : (body : List ℕ) (tag : ℕ) (cause : Refusal) → IsRefusedAs body tag cause → ((cause ≡ why.Malformed) × IsMalformed body tag) ⊎ HasUnlawfulSize body tag cause
refused_view body tag why.Malformed is = inl (refl, is)
refused_view body tag why.KeySize is = inr is
refused_view body tag why.ValueSize is = inr is
refused_view body tag why.ScanSize is = inr is
refused_view body tag _ is = absurd is

-- a body is refused for one reason under one tag
pub one_refusal : (body : List ℕ) (tag other_tag : ℕ) (cause other : Refusal) → IsRefusedAs body tag cause → IsRefusedAs body other_tag other → (tag ≡ other_tag) × (cause ≡ other)
one_refusal body tag other_tag cause other a b =
    elim (refused_view body tag cause a) [
      | inl m ↦ elim (refused_view body other_tag other b) [
        | inl n ↦ (m.1.tag_is ∙ sym n.1.tag_is, m.0 ∙ sym n.0)
        | inr n ↦ absurd (m.1.none other_tag n.request n.form)
      ]
      | inr m ↦ elim (refused_view body other_tag other b) [
        | inl n ↦ absurd (n.1.none tag m.request m.form)
        | inr n ↦
            let same = one_form body tag other_tag m.request n.request m.form n.form in
            (same.0, same_Some cause other (sym m.size ∙ ap size_refusal same.1 ∙ n.size))
      ]
    ]

-- and no command is refused so
pub no_refusal : (body : List ℕ) (tag other_tag : ℕ) (request : Request) (cause : Refusal) → Spells body tag request → IsRefusedAs body other_tag cause → ⊥
no_refusal body tag other_tag request cause is refused =
    elim (refused_view body other_tag cause refused) [
      | inl m ↦ m.1.none tag request is.form
      | inr m ↦
          let same = one_form body tag other_tag request m.request is.form m.form in
          none-some cause (sym is.sizes ∙ ap size_refusal same.1 ∙ m.size)
    ]

-- two answers to one body at one position are the same, but for want of memory, which changes nothing
pub one_answer : (mem : ℕ) (at : Position) (body : List ℕ) (response other : Response) (after others : Position) → Answers mem at body response after → Answers mem at body other others
    → ((response ≡ other) × (after.table ≡ others.table) × (at.fill ≤ mem → after.fill ≤ mem → others.fill ≤ mem → after ≡ others)) ⊎ ((response.answer ≡ refusal why.NoMemory) × (after ≡ at)) ⊎ ((other.answer ≡ refusal why.NoMemory) × (others ≡ at))
one_answer mem at body response other after others (inl x) (inl y) =
    let same = one_refusal body response.tag other.tag x.cause y.cause x.refused y.refused in
    let told : response.answer ≡ other.answer = x.answer ∙ ap (λ (r : Refusal). refusal r) same.1 ∙ sym y.answer in
    inl (λ j. record { tag = same.0 j; answer = told j }, ap (λ (p : Position). p.table) (x.same ∙ sym y.same), λ few still other_few. x.same ∙ sym y.same)
one_answer mem at body response other after others (inl x) (inr (inl y)) = absurd (no_refusal body other.tag response.tag y.request x.cause y.spelled x.refused)
one_answer mem at body response other after others (inl x) (inr (inr y)) = inr (inr (y.answer, y.same))
one_answer mem at body response other after others (inr (inl x)) (inl y) = absurd (no_refusal body response.tag other.tag x.request y.cause x.spelled y.refused)
one_answer mem at body response other after others (inr (inl x)) (inr (inl y)) =
    let same = one_form body response.tag other.tag x.request y.request x.spelled.form y.spelled.form in
    let told : response.answer ≡ other.answer = x.answer ∙ ap (λ (r : Request). (step at.table r).answer) same.1 ∙ sym y.answer in
    inl (
      λ j. record { tag = same.0 j; answer = told j },
      x.place.table ∙ ap (λ (r : Request). (step at.table r).table) same.1 ∙ sym y.place.table,
      λ few still other_few. one_after mem at x.request after others x.place (subst (λ (r : Request). IsAfter mem at r others) (sym same.1) y.place) few still other_few,
    )
one_answer mem at body response other after others (inr (inl x)) (inr (inr y)) = inr (inr (y.answer, y.same))
one_answer mem at body response other after others (inr (inr x)) b = inr (inl (x.answer, x.same))
