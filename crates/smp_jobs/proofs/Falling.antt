-- A running job comes nearer to its end whenever something is heard or a wait ends.
use Rattle.std.proofs.Common.{◌≡◌, ◌≤◌, ◌<◌, ◌+◌, ◌*◌, ℕ, zero, suc, Option, Some, None, refl, subst, arith}
use Rattle.smp_client.specs.Requests.{Open}
use Rattle.smp_jobs.specs.States.{spend, packets_left, hears_left, IsFresh}

-- how far a job is from its end, by its room, its requests to come and its open request
abbrev pub left_by : Option ℕ → ℕ → Option Open → ℕ
left_by room requests request = 64 * packets_left room requests request + hears_left request

-- the packet is sent again
pub again_falls : (room left : Option ℕ) (q : ℕ) (o after : Open) → spend room ≡ Some left → o.strangers ≤ 63
    → after.waits ≡ o.waits + 1 → after.strangers ≡ 0 → after.waits ≤ 8 → left_by left q (Some after) < left_by room q (Some o)
again_falls None left q o after h few waits strangers most =
    let is : None ≡ left = cc in
    subst (λ (l : Option ℕ). left_by l q (Some after) < left_by None q (Some o)) is (omega arith)
again_falls (Some zero) left q o after h few waits strangers most = absurd cc
again_falls (Some (suc n)) left q o after h few waits strangers most =
    let is : Some n ≡ left = cc in
    subst (λ (l : Option ℕ). left_by l q (Some after) < left_by (Some (suc n)) q (Some o)) is (omega arith)

-- one stranger more
pub waiting_falls : (room : Option ℕ) (q : ℕ) (o after : Open) → after.waits ≡ o.waits → after.strangers ≡ o.strangers + 1
    → after.strangers ≤ 63 → left_by room q (Some after) < left_by room q (Some o)
waiting_falls None q o after waits strangers few = omega arith
waiting_falls (Some n) q o after waits strangers few = omega arith

-- another request
asking_falls_to : (room left : Option ℕ) (q more : ℕ) (o after : Open) → spend room ≡ Some left → (room ≡ None → more + 1 ≤ q)
    → o.waits ≤ 8 → o.strangers ≤ 63 → after.waits ≡ 0 → after.strangers ≡ 0 → left_by left more (Some after) < left_by room q (Some o)
asking_falls_to None left q more o after h fewer waits strangers fresh none =
    let is : None ≡ left = cc in
    let fewer' : more + 1 ≤ q = fewer refl in
    subst (λ (l : Option ℕ). left_by l more (Some after) < left_by None q (Some o)) is (omega arith)
asking_falls_to (Some zero) left q more o after h fewer waits strangers fresh none = absurd cc
asking_falls_to (Some (suc n)) left q more o after h fewer waits strangers fresh none =
    let is : Some n ≡ left = cc in
    subst (λ (l : Option ℕ). left_by l more (Some after) < left_by (Some (suc n)) q (Some o)) is (omega arith)

pub asking_falls : (room left : Option ℕ) (q more : ℕ) (o : Open) (after : Option Open) → spend room ≡ Some left → (room ≡ None → more + 1 ≤ q)
    → o.waits ≤ 8 → o.strangers ≤ 63 → IsFresh after → left_by left more after < left_by room q (Some o)
asking_falls room left q more o None h fewer waits strangers fresh = absurd fresh
asking_falls room left q more o (Some after) h fewer waits strangers fresh =
    asking_falls_to room left q more o after h fewer waits strangers fresh.0 fresh.1
