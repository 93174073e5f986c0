-- The finite map of a list of files has for a name what a search of the list finds.
use Rattle.std.proofs.Common.{◌≡◌, ℕ, List, [], ◌∷◌, ◌++◌, map, cond, if◌then◌else◌, true, false, refl, ap, ◌∙◌, String, Vec, string_bytes, Option, Some, None, Bool, take}
use Rattle.std.specs.Str.{bytes_eq}
use Rattle.std.specs.declared.alloc.Global.{Global}
use Rattle.std.specs.Ordering.{nat_cmp}
use Rattle.std.specs.Cmp.Lexicographic.{slice_cmp, nat_list_cmp_total}
use Rattle.std.specs.FinMap.{find, get, insert, get-from_entries, get-insert}
use Rattle.std.proofs.lemmas.Map.Text.{is_eq-slice_cmp}
use Rattle.r4_ports.specs.Told.{Files, Call, file_of, Fetched, PutInto}
use Rattle.r4_ports.specs.FileList.{files_of}
use Rattle.r4_ports.specs.PutLog.{PutLogState, after_put_of, files_after, latest}
use Rattle.r4_ports.specs.ShelfState.{shelf_state, after_keeping}

-- the bytes of the first file with this name, where there is one
abbrev pub find_file : List (String Global × Vec ℕ Global) → List ℕ → Option (List ℕ)
find_file [] name = None
find_file (file ∷ files) name = if bytes_eq name (string_bytes file.0) then Some file.1.items else find_file files name

found : (files : List (String Global × Vec ℕ Global)) (name : List ℕ) → find (slice_cmp nat_cmp) name (map (λ file. (string_bytes file.0, file.1.items)) files) ≡ find_file files name
found [] name = refl
found (file ∷ files) name =
    rw (is_eq-slice_cmp name (string_bytes file.0))
    (ap (λ rest. cond (bytes_eq name (string_bytes file.0)) (Some file.1.items) rest) (found files name))

pub get_files_of : (files : List (String Global × Vec ℕ Global)) (name : List ℕ) → get (files_of files) name ≡ find_file files name
get_files_of files name = get-from_entries nat_list_cmp_total _ name ∙ found files name

-- what a shelf of these files answers
pub fetched : (files : List (String Global × Vec ℕ Global)) (is_told : Bool) (name : List ℕ) (cap : ℕ) (bytes : List ℕ) → bytes ≡ take cap (file_of (files_of files) name) → Fetched (cond is_told (Some (files_of files)) None) name cap bytes
fetched files true name cap bytes is = is
fetched files false name cap bytes is = tt

-- after puts a name has what the last put to it gave it, or what it had before
pub get-files_after : (files : Files) (puts : List (List ℕ × List ℕ)) (name : List ℕ) → get (files_after files puts) name ≡ latest (get files name) puts name
get-files_after files [] name = refl
get-files_after files (put ∷ puts) name =
    get-files_after (insert files put.0 put.1) puts name
    ∙ ap (λ before. latest before puts name) (get-insert nat_list_cmp_total files put.0 put.1 name ∙ ap (λ b. cond b (Some put.1) (get files name)) (is_eq-slice_cmp name put.0))

-- one put more
pub files_after-and : (files : Files) (puts : List (List ℕ × List ℕ)) (name bytes : List ℕ) → files_after files (puts ++ (name, bytes) ∷ []) ≡ insert (files_after files puts) name bytes
files_after-and files [] name bytes = refl
files_after-and files (put ∷ puts) name bytes = files_after-and (insert files put.0 put.1) puts name bytes

-- what a shelf tells after one put more
pub put_into : (files : Files) (log : PutLogState) (is_told : Bool) (name bytes : List ℕ) → PutInto (cond is_told (Some (files_after files log.puts)) None) (cond is_told (Some (files_after files (after_put_of log name bytes).puts)) None) name bytes
put_into files log true name bytes = files_after-and files log.puts name bytes
put_into files log false name bytes = tt

-- how a shelf stands after one put more
pub shelf_after-put : (files : Files) (log : PutLogState) (is_told : Bool) (asked : Option (List Call)) (failing : List ℕ) (calls fetch_faults put_faults : ℕ) (name bytes : List ℕ) →
    shelf_state files (after_put_of log name bytes) is_told asked failing calls fetch_faults put_faults ≡ after_keeping (shelf_state files log is_told asked failing calls fetch_faults put_faults) name bytes
shelf_after-put files log is_told asked failing calls fetch_faults put_faults name bytes =
    λ i. record (shelf_state files (after_put_of log name bytes) is_told asked failing calls fetch_faults put_faults) { files = files_after-and files log.puts name bytes i }
