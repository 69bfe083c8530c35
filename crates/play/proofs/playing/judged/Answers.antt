-- `judged` meets its contract: the device's validity, then what the check found, then the rooms.
use Rattle.std.proofs.Common.{◌≡◌, ◌≤◌, true, length, sym, ◌∙◌, arith}
use Rattle.std.proofs.lemmas.Result.{err_from_is_err_and}
use Rattle.device.specs.Validity.{valid_of}
use Rattle.play.proofs.Settled.{Taken, taken, invalid, stops, few_bytes, few_entries, counted, bounded}
use Rattle.play.proofs.playing.judged.Goals as goal
use Rattle.play.proofs.playing.judged.Goals.{In_ok-sums, Else-not-valid, else-openings-sums-via-then-openings-sums+else-openings-count_openings, else-openings-sums-via-else-openings-sums}

-- the device is valid
valid : (v : Else-not-valid) → valid_of v.args.device ≡ true
valid v = sym v.valid.ensures ∙ v.if-not-valid.false

-- the check takes the list
took : (n : In_ok-sums) → Taken n.args.list.now n.in_ok-sums.sums
took n = taken _ n.in_ok-sums.sums n.in_ok-sums.ensures

pub returns-then-not-valid : goal.returns-then-not-valid
returns-then-not-valid c = λ A O a o. rw c.at.ensures (invalid c.args.list.now c.args.device A O (sym c.valid.ensures ∙ c.if-not-valid.true))

pub returns-in_err-sums : goal.returns-in_err-sums
returns-in_err-sums c =
    let p = err_from_is_err_and c.from_residual.result c.from_residual.ensures.1 in
    λ A O a o. rw (p.1, p.2) (stops c.args.list.now c.args.device A O (valid (goal.at.returns-in_err-sums c).Else-not-valid) _ _ c.in_err-sums.ensures)

pub returns-then-answers-sums : goal.returns-then-answers-sums
returns-then-answers-sums c =
    let p = goal.at.returns-then-answers-sums c in
    λ A O a o. rw c.at-then-answers-sums.ensures
    (few_bytes c.args.list.now c.args.device A O (valid p.Else-not-valid) c.in_ok-sums.sums (took p.In_ok-sums) (omega (arith, a, c.if-answers-sums.true)))

pub returns-then-openings-count_openings : goal.returns-then-openings-count_openings
returns-then-openings-count_openings c =
    let p = goal.at.returns-then-openings-count_openings c in
    λ A O a o. rw c.at-then-openings-count_openings.ensures
    (few_entries c.args.list.now c.args.device A O (valid p.Else-not-valid) c.in_ok-sums.sums (took p.In_ok-sums)
    (omega (arith, a, c.if-answers-sums.false)) (omega (arith, o, c.count_openings.ensures, c.if-openings-count_openings.true)))

pub returns : goal.returns
returns c =
    let p = goal.at.returns c in
    let t = took p.In_ok-sums in
    let v = valid p.Else-not-valid in
    let n = c.in_ok-sums.sums in
    λ A O a o.
    let bytes : n.answers ≤ length A = omega (arith, a, c.if-answers-sums.false) in (
      t.es,
      t.is,
      (elim c.else-openings-sums.branch [
        | else-openings-sums-via-then-openings-sums+else-openings-count_openings w ↦
            counted c.args.list.now c.args.device A O v n t bytes (omega (arith, o, w.count_openings.ensures, w.if-openings-count_openings.false))
        | else-openings-sums-via-else-openings-sums w ↦ bounded c.args.list.now c.args.device A O v n t bytes (omega (arith, o, w.if-openings-sums.false))
      ]),
    )
