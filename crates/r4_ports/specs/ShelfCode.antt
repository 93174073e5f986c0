-- The state of a shelf as plain data, by which a proof tells two states apart.
use Rattle.std.specs.Prelude.{◌≡◌, ℕ, Bool, true, false, List, Option, if◌then◌else◌, refl}
use Rattle.std.specs.Coded.{Coded, code_by, coded×, coded_ℕ, coded_bool, coded_list, coded_option}
use Rattle.std.specs.FinMap.{code}
use Rattle.r4_ports.specs.declared.CallKind.{CallKind}
use Rattle.r4_ports.specs.declared.CallKind.TheVariants.{Fetch, Put}
use Rattle.r4_ports.specs.Told.{Files, Call}
use Rattle.r4_ports.specs.ShelfState.{ShelfState}

-- a call is a put and no fetch, and the kind of a call by that
abbrev pub is_put : CallKind → Bool
is_put Fetch = false
is_put Put = true

abbrev pub kind_of : Bool → CallKind
kind_of put = if put then Put else Fetch

pub kind_of-is_put : (kind : CallKind) → kind_of (is_put kind) ≡ kind
kind_of-is_put Fetch = refl
kind_of-is_put Put = refl

-- kinds, calls and files as plain data
abbrev pub kind_code : Coded CallKind
kind_code = code_by Bool coded_bool is_put kind_of kind_of-is_put

abbrev pub call_code : Coded Call
call_code =
    code_by (CallKind × List ℕ) (coded× kind_code (coded_list coded_ℕ))
    (λ call. (call.kind, call.name)) (λ pair. record { kind = pair.0; name = pair.1 })
    (λ _. refl)

abbrev pub files_code : Coded Files
files_code = code (coded_list coded_ℕ) (coded_list coded_ℕ)

-- what a shelf shows, and its counts
abbrev pub shelf_code : Coded ShelfState
shelf_code =
    code_by ((Files × Bool) × ((Option (List Call) × ℕ) × ((List ℕ × ℕ) × (ℕ × ℕ))))
    (coded× (coded× files_code coded_bool)
    (coded× (coded× (coded_option (coded_list call_code)) coded_ℕ)
    (coded× (coded× (coded_list coded_ℕ) coded_ℕ) (coded× coded_ℕ coded_ℕ))))
    (λ s. ((s.files, s.is_told), ((s.asked, s.left), ((s.failing, s.calls), (s.fetch_faults, s.put_faults)))))
    (λ p. record {
      files = p.0.0;
      is_told = p.0.1;
      asked = p.1.0.0;
      left = p.1.0.1;
      failing = p.1.1.0.0;
      calls = p.1.1.0.1;
      fetch_faults = p.1.1.1.0;
      put_faults = p.1.1.1.1;
    })
    (λ _. refl)
