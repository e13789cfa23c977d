use Rattle.std.proofs.Common.{◌≡◌, ◌<◌, ◌-◌, ℕ, length, get_or, slice_set, ap, arith, ◌∙◌}
use Rattle.layout_model.specs.declared.request.Request.{Request}
use Rattle.layout_model.specs.Plan.{ask_of}
use Rattle.object_plan.proofs.CodeLemmas.{wish-last}
use Rattle.object_plan.proofs.asking.wish.Goals as goal

pub returns : goal.returns
returns c =
    let xs = c.args.requests.now.items in
    let some : 0 < length xs = omega (arith, c.if-count-eq0.false, c.len-count.ensures) in
    let count : c.len-count.result ≡ length xs = omega (arith, c.len-count.ensures) in
    let item = c.index.result.now in
    let here : item ≡ get_or xs (length xs - 1) item = c.index.ensures ∙ ap (λ (k : ℕ). get_or xs (k - 1) item) count in
    let made : Request → Request = λ (r : Request). record { want = ask_of r.need c.args.last c.args.limit; need = r.need } in
    ap (λ (k : ℕ). slice_set xs (k - 1) (record { want = c.ask.result; need = item.need })) count
    ∙ (ap (λ (k : ℕ). slice_set xs (length xs - 1) (record { want = k; need = item.need })) c.ask.ensures
    ∙ (ap (λ (r : Request). slice_set xs (length xs - 1) (made r)) here
    ∙ wish-last c.args.last c.args.limit xs item some))
