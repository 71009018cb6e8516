-- One call and then another.
use Rattle.std.proofs.Common.{◌≡◌, ◌⊎◌, inl, inr, ℕ, ◌+◌, ◌≤◌, false, Option, Some, None, List, [], ◌∷◌, ◌++◌, refl, sym, ◌∙◌, ap, subst, arith, append_assoc}
use Rattle.std.proofs.lemmas.List.{append-nil}
use Rattle.std.specs.Prelude.{IsSome, IsSomeAnd}
use Rattle.smp_flash.specs.Area.{Told}
use Rattle.smp_flash.specs.Calls.{Goes}
use Rattle.smp_flash.specs.Layout.{progress_of}
use Rattle.smp_flash.specs.State.{FlashState, End}
use Rattle.smp_flash.specs.State.End.{Went}
use Rattle.smp_flash.specs.declared.layout.Layout.{Layout}
use Rattle.smp_flash.specs.declared.region.Region.{Region}
use Rattle.smp_flash.proofs.Passing.{Calls-after, Calls-wider, Covers, Smaller-then, then_Smaller}
use Rattle.smp_flash.proofs.Telling.{Told-trans, Told-map}
use Rattle.smp_gate.specs.Newest.{AgesAtMost}
use Rattle.smp_model.specs.declared.device.Side.{Side}
use Rattle.smp_model.specs.Sides.{SideStep, side_applied, side_apply, SidePart}
use Rattle.smp_upload.specs.Bytes.{SideStands, SideShows}
use Rattle.smp_upload.specs.Counting.{Pays, CountsSteps}
use Rattle.smp_upload.specs.Moves.{Moves, Does, KeepsPending, Moved, Done, and_then}

pub shows_stands : (layout : Layout) (side : Side) (bytes : List ℕ) → SideShows layout side bytes → SideStands layout side bytes
shows_stands layout side bytes s = record { rescue = false; stands = s.stands }

-- a generation that never fell in either of two changes
pub ages_sum : (layout : Layout) (m n : ℕ) (old middle new : List ℕ) → AgesAtMost m (progress_of layout) old middle → AgesAtMost n (progress_of layout) middle new → AgesAtMost (m + n) (progress_of layout) old new
ages_sum layout m n old middle new f h =
    let a = f.kept in
    let b = f.most in
    let c = h.kept in
    let d = h.most in
    record { kept = omega arith; most = omega arith }

pub ages_more : (layout : Layout) (m n : ℕ) (old new : List ℕ) → m ≤ n → AgesAtMost m (progress_of layout) old new → AgesAtMost n (progress_of layout) old new
ages_more layout m n old new le f = record { kept = f.kept; most = (let h = f.most in omega arith) }

pub applied-append : (s t : List SideStep) (side : Side) → side_applied (s ++ t) side ≡ side_applied t (side_applied s side)
applied-append [] t side = refl
applied-append (x ∷ s) t side = applied-append s t (side_apply x side)

pub part_more : (side e : Side) (s t : List SideStep) → SidePart side s e → SidePart side (s ++ t) e
part_more side e s t p = record { front = p.front; rest = p.rest ++ t; split = ap (λ z. z ++ t) p.split ∙ append_assoc p.front p.rest t; reached = p.reached }

pub part_after : (side e : Side) (s t : List SideStep) → SidePart (side_applied s side) t e → SidePart side (s ++ t) e
part_after side e s t p = record {
  front = s ++ p.front;
  rest = p.rest;
  split = ap (λ z. s ++ z) p.split ∙ sym (append_assoc s p.front p.rest);
  reached = p.reached ∙ sym (applied-append s p.front side);
}

pub part_whole : (side : Side) (s : List SideStep) → SidePart side s (side_applied s side)
part_whole side s = record { front = s; rest = []; split = sym (append-nil s); reached = refl }

pub part_none : (side : Side) (s : List SideStep) → SidePart side s side
part_none side s = record { front = []; rest = s; split = refl; reached = refl }

moves_first : (layout : Layout) (s t : Side → List SideStep) (old new : List ℕ) → Moves layout s old new → Moves layout (and_then s t) old new
moves_first layout s t old new m = record {
  moves = λ side stands. let r = m.moves side stands in record {
    reached = r.reached;
    part = part_more side r.reached (s side) (t (side_applied (s side) side)) r.part;
    stands = r.stands;
  };
}

moves_then : (layout : Layout) (s t : Side → List SideStep) (old middle new : List ℕ) → Does layout s old middle → Moves layout t middle new → Moves layout (and_then s t) old new
moves_then layout s t old middle new f m = record {
  moves = λ side stands.
      let e = side_applied (s side) side in
      let r = m.moves e (shows_stands layout e middle (f.does side stands)) in
      record { reached = r.reached; part = part_after side r.reached (s side) (t e) r.part; stands = r.stands };
}

does_then : (layout : Layout) (s t : Side → List SideStep) (old middle new : List ℕ) → Does layout s old middle → Does layout t middle new → Does layout (and_then s t) old new
does_then layout s t old middle new f h = record {
  does = λ side stands.
      let e = side_applied (s side) side in
      let r = h.does e (shows_stands layout e middle (f.does side stands)) in
      subst (λ (x : Side). SideShows layout x new) (sym (applied-append (s side) (t e) side)) r;
}

pub does_moves : (layout : Layout) (s : Side → List SideStep) (old new : List ℕ) → Does layout s old new → Moves layout s old new
does_moves layout s old new f = record {
  moves = λ side stands. record {
    reached = side_applied (s side) side;
    part = part_whole side (s side);
    stands = shows_stands layout (side_applied (s side) side) new (f.does side stands);
  };
}

pub keeps_trans : (layout : Layout) (old middle new : List ℕ) → KeepsPending layout old middle → KeepsPending layout middle new → KeepsPending layout old new
keeps_trans layout old middle new f h = record {
  kept = λ is. h.kept (subst IsSome (sym (f.still is)) is) ∙ f.kept is;
  still = λ is. h.still (subst IsSome (sym (f.still is)) is) ∙ f.still is;
}

counts-append : (layout : Layout) (aim : Option Region) (s t : List SideStep) (side : Side) → CountsSteps layout aim side (s ++ t) → CountsSteps layout aim side s ⊎ CountsSteps layout aim (side_applied s side) t
counts-append layout aim [] t side is = inr is
counts-append layout aim (x ∷ s) t side is = elim is [
  | inl now ↦ inl (inl now)
  | inr more ↦ elim (counts-append layout aim s t (side_apply x side) more) [
    | inl first ↦ inl (inr first)
    | inr second ↦ inr second
  ]
]

both_told : (P : List ℕ → Type 0) (R : List ℕ → List ℕ → Type 0) (Q : List ℕ → Type 0) (x y : Option (List ℕ)) → ((u v : List ℕ) → P u → R u v → Q v) → IsSomeAnd x P → Told R x y → IsSomeAnd y Q
both_told P R Q None y f is r = absurd is
both_told P R Q (Some u) None f is r = absurd r
both_told P R Q (Some u) (Some v) f is r = f u v is r

pays_then : (layout : Layout) (s t : Side → List SideStep) (a b c : FlashState) → Goes a b → Goes b c → Told (Does layout s) a.bytes b.bytes → Pays layout s a b → Pays layout t b c → Pays layout (and_then s t) a c
pays_then layout s t a b c f h does p q = record {
  pays = λ side stands is.
      elim (counts-append layout a.aim (s side) (t (side_applied (s side) side)) side is) [
        | inl first ↦ Smaller-then a.patience b.patience c.patience (p.pays side stands first) h.patience
        | inr second ↦ then_Smaller a.patience b.patience c.patience f.patience
            (q.pays (side_applied (s side) side)
            (both_told (SideStands layout side) (Does layout s) (SideStands layout (side_applied (s side) side)) a.bytes b.bytes
            (λ u v st e. shows_stands layout (side_applied (s side) side) v (e.does side st)) stands does)
            (subst (λ (r : Option Region). CountsSteps layout r (side_applied (s side) side) (t (side_applied (s side) side))) (sym f.aim) second))
      ];
}

-- the first call ended the whole
pub Moved-first : (layout : Layout) (spots : List (ℕ × ℕ)) (m n : ℕ) (s t : Side → List SideStep) (end : End) (a b : FlashState)
    → m ≤ n → Moved layout spots m s end a b → Moved layout spots n (and_then s t) end a b
Moved-first layout spots m n s t end a b le f = record {
  calls = f.calls;
  moves = Told-map (Moves layout s) (Moves layout (and_then s t)) a.bytes b.bytes (moves_first layout s t) f.moves;
  ages = Told-map (AgesAtMost m (progress_of layout)) (AgesAtMost n (progress_of layout)) a.bytes b.bytes (λ u v. ages_more layout m n u v le) f.ages;
  pending = f.pending;
}

-- the second call ended it
pub Done-Moved : (layout : Layout) (spots : List (ℕ × ℕ)) (m n : ℕ) (s t : Side → List SideStep) (end : End) (a b c : FlashState)
    → Done layout spots m s a b → Moved layout spots n t end b c → Moved layout spots (m + n) (and_then s t) end a c
Done-Moved layout spots m n s t end a b c f h = record {
  calls = Calls-after spots end a b c f.calls h.calls;
  moves = Told-trans (Does layout s) (Moves layout t) (Moves layout (and_then s t)) a.bytes b.bytes c.bytes (moves_then layout s t) f.does h.moves;
  ages = Told-trans (AgesAtMost m (progress_of layout)) (AgesAtMost n (progress_of layout)) (AgesAtMost (m + n) (progress_of layout)) a.bytes b.bytes c.bytes (ages_sum layout m n) f.ages h.ages;
  pending = Told-trans (KeepsPending layout) (KeepsPending layout) (KeepsPending layout) a.bytes b.bytes c.bytes (keeps_trans layout) f.pending h.pending;
}

pub Done-Done : (layout : Layout) (spots : List (ℕ × ℕ)) (m n : ℕ) (s t : Side → List SideStep) (a b c : FlashState)
    → Done layout spots m s a b → Done layout spots n t b c → Done layout spots (m + n) (and_then s t) a c
Done-Done layout spots m n s t a b c f h = record {
  calls = Calls-after spots Went a b c f.calls h.calls;
  does = Told-trans (Does layout s) (Does layout t) (Does layout (and_then s t)) a.bytes b.bytes c.bytes (does_then layout s t) f.does h.does;
  ages = Told-trans (AgesAtMost m (progress_of layout)) (AgesAtMost n (progress_of layout)) (AgesAtMost (m + n) (progress_of layout)) a.bytes b.bytes c.bytes (ages_sum layout m n) f.ages h.ages;
  pending = Told-trans (KeepsPending layout) (KeepsPending layout) (KeepsPending layout) a.bytes b.bytes c.bytes (keeps_trans layout) f.pending h.pending;
  pays = pays_then layout s t a b c f.calls.passes h.calls.passes f.does f.pays h.pays;
}

pub Done-is : (layout : Layout) (spots : List (ℕ × ℕ)) (n : ℕ) (s : Side → List SideStep) (a b : FlashState) → Done layout spots n s a b → Moved layout spots n s Went a b
Done-is layout spots n s a b f = record {
  calls = f.calls;
  moves = Told-map (Does layout s) (Moves layout s) a.bytes b.bytes (does_moves layout s) f.does;
  ages = f.ages;
  pending = f.pending;
}

pub Moved-wider : (layout : Layout) (wide spots : List (ℕ × ℕ)) (n : ℕ) (s : Side → List SideStep) (end : End) (a b : FlashState) → Covers wide spots → Moved layout spots n s end a b → Moved layout wide n s end a b
Moved-wider layout wide spots n s end a b covers f = record { calls = Calls-wider wide spots end a b covers f.calls; moves = f.moves; ages = f.ages; pending = f.pending }

pub Done-wider : (layout : Layout) (wide spots : List (ℕ × ℕ)) (n : ℕ) (s : Side → List SideStep) (a b : FlashState) → Covers wide spots → Done layout spots n s a b → Done layout wide n s a b
Done-wider layout wide spots n s a b covers f = record { calls = Calls-wider wide spots Went a b covers f.calls; does = f.does; ages = f.ages; pending = f.pending; pays = f.pays }
