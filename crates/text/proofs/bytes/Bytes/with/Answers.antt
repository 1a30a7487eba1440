use Rattle.std.proofs.Common.{rules, ◌≤◌, ◌+◌, ◌++◌, ℕ, List, length, ap, ◌∙◌, arith, length-take-le}
use Rattle.text.specs.BytesLaws.{with-more, with-zeros}
use Rattle.text.proofs.bytes.Bytes.with.Goals as goal

room : (g : _) (c : goal.After-padded-3-1 g) → c.self.inside.len + length c.args.more.now ≤ g.row.N
room g c =
    let size = c.self.told in
    let seen = ap length c.self.view_is in
    let held = c.self.invariant.0 in
    omega (arith, length-take-le c.self.inside.len c.self.inside.padded (omega arith))

pub invariant_of-result : goal.invariant_of-result
invariant_of-result g c = (
  room g c,
  search rules,
  with-zeros g.row.N c.self.inside.len c.self.inside.padded c.args.more.now c.self.told (room g c) c.copy.ensures c.self.invariant.2,
)

pub returns : goal.returns
returns g c =
    with-more g.row.N c.self.inside.len c.self.inside.padded c.args.more.now c.self.told (room g c) c.copy.ensures
    ∙ ap (λ (xs : List ℕ). xs ++ c.args.more.now) c.self.view_is
