-- Arrays that a closure makes, of the numbers below n or of the elements of a list: what each call may be given, and what they give.
use Rattle.std.specs.Prelude.{◌≡◌, ℕ, zero, suc, ◌+◌, ◌<◌, List, [], ◌∷◌, map, length, slice_index, slice_index_or}
use Rattle.std.specs.List.{range_with_len}
use Rattle.std.specs.Array.{IsFromFnResultFrom, IsFromFnResult, MapsFrom, IsMapOf, index_steps, list_steps}
use Rattle.std.specs.Iterator.{CallableAtEachTurn, AlwaysYields}
use Rattle.std.specs.Fn.{Called}
use Rattle.std.proofs.Common.{refl, sym, zero-add, subst, ◌∙◌, ap, arith}
use Rattle.std.proofs.lemmas.Iterator.Adapters.{serves_from_places}
use Rattle.std.proofs.lemmas.List.{length-map, get_or-map, get_or_default}
use Rattle.std.proofs.lemmas.List.FromFn.{fill_by_all, length-range_with_len, get_or-range_with_len}
use denote.Param.Members.{Mut}

-- where no call changes the closure, the array is the list of the closure's values
module _ {F B : Type 0} (g : Mut F (ℕ × Unit {0}) B) (value : ℕ → B) (f : F) (calls : (k : ℕ) (y : B) (q : F) → Called g f (k, tt) y q → (y ≡ value k) × (q ≡ f)) where
  made_at : (n i : ℕ) (ys : List B) (p : F) → p ≡ f → IsFromFnResultFrom g p ys i n → (k : ℕ) (d : B) → k < n → slice_index_or ys (i + k) d ≡ value (i + k)
  made_at zero i ys p same made k d h = absurd (omega (arith, h))
  made_at (suc n) i ys p same made zero d h =
      let one = calls i made.1 made.0 (subst (λ (x : F). Called g x (i, tt) made.1 made.0) same made.3) in
      subst (λ j. slice_index_or ys j d ≡ value j) (omega arith) (made.2.1 d ∙ one.0)
  made_at (suc n) i ys p same made (suc k) d h =
      let one = calls i made.1 made.0 (subst (λ (x : F). Called g x (i, tt) made.1 made.0) same made.3) in
      subst (λ j. slice_index_or ys j d ≡ value j) (omega arith) (made_at n (i + 1) ys made.0 one.1 made.4 k d (omega arith))

  pub made_by : (ys : List B) (n : ℕ) (d : B) → IsFromFnResult g f ys n → ys ≡ map value (range_with_len 0 n)
  made_by ys n d made = fill_by_all value ys n d made.long (λ k h. subst (λ j. slice_index_or ys j d ≡ value j) (zero-add k) (made_at n 0 ys f refl made.each k d h))

list_road : {A : Type 0} (xs : List A) → AlwaysYields list_steps (λ x. x) xs xs
list_road [] = λ x j e. cc
list_road {A} (y ∷ ys) =
    (λ j e. cc, λ x j e. (cc, let rest : ys ≡ j = cc in subst (λ (t : List A). AlwaysYields list_steps (λ x. x) t ys) rest (list_road ys)))

index_road : (n d i : ℕ) → i + d ≡ n → AlwaysYields (index_steps n) (λ x. x) i (range_with_len i d)
index_road n zero i e = λ x j h. omega (arith, h.0)
index_road n (suc d) i e =
    (λ j h. omega (arith, h), λ x j h. (h.1, subst (λ (t : ℕ). AlwaysYields (index_steps n) (λ x. x) t (range_with_len (i + 1) d)) (sym h.2) (index_road n d (i + 1) (omega arith))))

module _ {F : Type 0} {R : F → ℕ → F → Type 0} {Q : F → ℕ → Type 0} {f : F} (same : (x : ℕ) (q : F) → R f x q → q ≡ f) where
  -- a closure that is called at the numbers below n
  pub serves_below : (n : ℕ) → ((k : ℕ) → k < n → Q f k) → CallableAtEachTurn (index_steps n) R Q 0 f
  serves_below n each =
      serves_from_places (record { runs = index_road n n 0 (zero-add n) }) same
      (λ x k h e. each x (omega (arith, e, length-range_with_len 0 n, get_or-range_with_len 0 n k x (omega (arith, length-range_with_len 0 n)))))

  -- and at the elements of a list
  pub serves_each : (xs : List ℕ) → ((k : ℕ) → k < length xs → Q f (slice_index xs k)) → CallableAtEachTurn list_steps R Q xs f
  serves_each xs each =
      serves_from_places (record { runs = list_road xs }) same
      (λ x k h e. subst (Q f) (sym (e ∙ get_or_default xs k x 0 h)) (each k h))

module _ {F : Type 0} (g : Mut F (ℕ × Unit {0}) ℕ) (value : ℕ → ℕ) (f : F) (calls : (x y : ℕ) (q : F) → Called g f (x, tt) y q → (y ≡ value x) × (q ≡ f)) where
  mapped_at : (n i : ℕ) (xs ys : List ℕ) (p : F) → p ≡ f → MapsFrom g p xs ys i n → (k : ℕ) → k < n → slice_index ys (i + k) ≡ value (slice_index xs (i + k))
  mapped_at zero i xs ys p same made k h = absurd (omega (arith, h))
  mapped_at (suc n) i xs ys p same made zero h =
      let one = calls made.1 made.2 made.0 (subst (λ (x : F). Called g x (made.1, tt) made.2 made.0) same made.5) in
      subst (λ j. slice_index ys j ≡ value (slice_index xs j)) (omega arith) (made.4.1 0 ∙ one.0 ∙ ap value (sym (made.3.1 0)))
  mapped_at (suc n) i xs ys p same made (suc k) h =
      let one = calls made.1 made.2 made.0 (subst (λ (x : F). Called g x (made.1, tt) made.2 made.0) same made.5) in
      subst (λ j. slice_index ys j ≡ value (slice_index xs j)) (omega arith) (mapped_at n (i + 1) xs ys made.0 one.1 made.6 k (omega arith))

  pub mapped_by : (xs ys : List ℕ) (n : ℕ) → length xs ≡ n → IsMapOf g f xs ys n → ys ≡ map value xs
  mapped_by xs ys n long made =
      let at = λ (k : ℕ). value (slice_index xs k) in
      fill_by_all at ys n 0 made.long (λ k h. subst (λ j. slice_index ys j ≡ value (slice_index xs j)) (zero-add k) (mapped_at n 0 xs ys f refl made.each k h))
      ∙ sym (fill_by_all at (map value xs) n 0 (length-map xs value ∙ long) (λ k h. get_or-map value xs k 0 0 (omega arith)))
