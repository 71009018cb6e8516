-- Files that are loaded one after another.
use Rattle.std.proofs.Common.{◌≡◌, ℕ, List, [], ◌∷◌, ◌++◌, length, Option, Some, None, Result, Ok, Err, refl, append-nil, subst}
use Rattle.smp_edge.specs.Files.{Folder}
use Rattle.smp_edge.specs.Faults.{next_call}
use Rattle.smp_schedule.specs.declared.event.Event.{Event}
use Rattle.smp_app.specs.declared.loading.Client.{Client}
use Rattle.smp_app.specs.declared.status.Status.{Status}
use Rattle.smp_app.specs.declared.status.Status.TheVariants.{Done, Usage, BadSchedule, BadImage, TooLong, FileFault, WriteFault, NoMemory}
use Rattle.smp_app.specs.Loading.{first_of, file_fault, files_fault, HaveFault, LoadsAll, AreClients, calls_after}

-- those of two lists, by whether one of the first has a fault
first_none : (fault later more x : Option Status) → (later ≡ None → more ≡ x) → first_of fault later ≡ None → first_of fault more ≡ x
first_none (Some s) later more x h none = absurd cc
first_none None later more x h none = h none

after_none : (file : List ℕ → Option (List ℕ)) (a b : List (List ℕ)) (x : Option Status)
    → files_fault file a ≡ None → files_fault file b ≡ x → files_fault file (a ++ b) ≡ x
after_none file [] b x none h = h
after_none file (name ∷ names) b x none h =
    first_none (file_fault (file name)) (files_fault file names) (files_fault file (names ++ b)) x (λ e. after_none file names b x e h) none

first_some : (fault later more : Option Status) (s : Status) → (later ≡ Some s → more ≡ Some s) → first_of fault later ≡ Some s → first_of fault more ≡ Some s
first_some (Some t) later more s h is = is
first_some None later more s h is = h is

after_some : (file : List ℕ → Option (List ℕ)) (a b : List (List ℕ)) (s : Status)
    → files_fault file a ≡ Some s → files_fault file (a ++ b) ≡ Some s
after_some file [] b s h = absurd cc
after_some file (name ∷ names) b s h =
    first_some (file_fault (file name)) (files_fault file names) (files_fault file (names ++ b)) s (after_some file names b s) h

pub then_fault : (folder : Folder) (a b : List (List ℕ)) (x : Option Status) → HaveFault folder a None → HaveFault folder b x → HaveFault folder (a ++ b) x
then_fault None a b x first second = tt
then_fault (Some file) a b x first second = after_none file a b x first second

pub first_fault : (folder : Folder) (a b : List (List ℕ)) (s : Status) → HaveFault folder a (Some s) → HaveFault folder (a ++ b) (Some s)
first_fault None a b s h = tt
first_fault (Some file) a b s h = after_some file a b s h

-- a refusal in place of some value
abbrev pub Refused : (T : Type 0) → Status → Result T Status
Refused T status = Err status

-- where one of the first could not be loaded
pub breaks_off : (T U : Type 0) (folder : Folder) (a b : List (List ℕ)) (status : Status)
    → LoadsAll folder a (Refused T status) → LoadsAll folder (a ++ b) (Refused U status)
breaks_off T U folder a b Done h = absurd h
breaks_off T U folder a b Usage h = absurd h
breaks_off T U folder a b (BadSchedule line) h = absurd h
breaks_off T U folder a b (BadImage why) h = absurd h
breaks_off T U folder a b TooLong h = first_fault folder a b TooLong h
breaks_off T U folder a b FileFault h = tt
breaks_off T U folder a b WriteFault h = absurd h
breaks_off T U folder a b NoMemory h = tt

-- where they were all loaded
pub goes_on : {T U : Type 0} (folder : Folder) (a b : List (List ℕ)) (x : T) (result : Result U Status)
    → LoadsAll folder a (Ok x) → LoadsAll folder b result → LoadsAll folder (a ++ b) result
goes_on folder a b x (Ok y) first second = then_fault folder a b None first second
goes_on folder a b x (Err Done) first second = absurd second
goes_on folder a b x (Err Usage) first second = absurd second
goes_on folder a b x (Err (BadSchedule line)) first second = absurd second
goes_on folder a b x (Err (BadImage why)) first second = absurd second
goes_on folder a b x (Err TooLong) first second = then_fault folder a b (Some TooLong) first second
goes_on folder a b x (Err FileFault) first second = tt
goes_on folder a b x (Err WriteFault) first second = absurd second
goes_on folder a b x (Err NoMemory) first second = tt

-- no file is named, none is loaded
pub none_fault : (folder : Folder) → HaveFault folder [] None
none_fault None = tt
none_fault (Some file) = refl

-- as many calls as names
pub calls_more : (a b : List (List ℕ)) (calls : ℕ) → calls_after (length (a ++ b)) calls ≡ calls_after (length b) (calls_after (length a) calls)
calls_more [] b calls = refl
calls_more (name ∷ names) b calls = calls_more names b (next_call calls)

-- no event is left
pub all_held : (folder : Folder) (events rest : List Event) (clients : List Client)
    → ((others : List Client) → AreClients folder rest others → AreClients folder events (clients ++ others)) → rest ≡ [] → AreClients folder events clients
all_held folder events [] clients h none = subst (AreClients folder events) (append-nil clients) (h [] tt)
all_held folder events (event ∷ rest) clients h none = absurd cc
