use Rattle.std.proofs.Common.{◌<◌, ◌≡◌, length, take, IfSome, MatchOption, ℕ, ◌+◌, Bool, true, false, leb, min, List, ◌++◌, Some, None, Option, Vec, Global, sym, refl, ap, subst, ◌∙◌, arith}
use Rattle.std.specs.Bool.{then_some}
use Rattle.std.specs.Option.{option_map}
use Rattle.std.proofs.lemmas.List.{take_all, length-take}
use Rattle.std.proofs.lemmas.Bool.{leb-true, leb-false}
use Rattle.inputs.proofs.read_at_most.Goals as goal

-- what was read of a source that is known, up to a byte past the limit
whole : (known : Option (List ℕ)) (longest limit n : ℕ) (v : Vec ℕ Global) → limit ≡ min (longest + 1) 18446744073709551615 → n ≡ length v.items → n < 18446744073709551615 → IfSome (option_map (take limit) known) (λ xs. v.items ≡ xs) → IfSome known (λ left. MatchOption (then_some (leb n longest) v) (longest < length left) (λ bytes. bytes.items ≡ left))
whole None longest limit n v most count few read = tt
whole (Some left) longest limit n v most count few read = go (leb n longest) refl
  where
    go : (t : Bool) → leb n longest ≡ t → MatchOption (then_some t v) (longest < length left) (λ bytes. bytes.items ≡ left)
    go true e = let within = leb-true n longest e in read ∙ take_all limit left (omega (arith, ap length read, length-take limit left))
    go false e = let over = leb-false n longest e in omega (arith, ap length read, length-take limit left)

pub returns-clause-whole : goal.returns-clause-whole
returns-clause-whole g c =
    let v = c.read_to_end.new.buf in
    let known = g.R.Read.remaining in
    let read : IfSome (option_map (take c.saturating_add.result) (known c.args.source)) (λ xs. v.items ≡ xs) =
    rw (← c.take-start.ensures.limit, ← c.take-start.ensures.inner) (subst (λ start. IfSome (option_map (take c.take-start.result.limit) (known c.take-start.result.inner)) (λ xs. v.items ≡ start ++ xs)) c.new-bytes.ensures.items c.in_ok-read_to_end.ensures.bytes) in
    subst (λ o. IfSome (known c.args.source) (λ left. MatchOption o (c.args.longest < length left) (λ bytes. bytes.items ≡ left))) (sym c.then_some.ensures)
    (whole (known c.args.source) c.args.longest c.saturating_add.result c.len.result v c.saturating_add.ensures (c.len.ensures ∙ v.ok.0) (omega (arith, v.small)) read)
