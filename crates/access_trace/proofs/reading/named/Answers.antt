use Rattle.std.proofs.Common.{◌≡◌, ap, ◌∙◌, codes, bytes_eq, refl}
use Rattle.access_trace.proofs.ReadBack.{widths_of, size_of, attribute_is, quiet_is}
use Rattle.access_trace.proofs.reading.named.Goals as goal

pub returns-clause-back : goal.returns-clause-back
returns-clause-back c = λ event grammar fields.
    let wide = widths_of event grammar in
    let numbers = fields.numbers in
    let tick : c.in_ok-read_dec.field-0 ≡ event.tick = let back = c.in_ok-read_dec.ensures.read_back event.tick wide.tick numbers.tick in cc in
    let kind : c.in_ok-kind_of.field-0 ≡ event.kind = let back = c.in_ok-kind_of.ensures.back event.kind numbers.kind in cc in
    let cached : c.is_one.result ≡ event.cached = c.is_one.ensures ∙ ap (λ text. bytes_eq text (codes "c")) fields.attribute ∙ attribute_is event grammar in
    let quiet : c.is_one-2.result ≡ event.quiet = c.is_one-2.ensures ∙ ap (λ text. bytes_eq text (codes "q")) fields.quiet ∙ quiet_is event grammar in
    let va : c.in_ok-read_address.field-0 ≡ event.va = let back = c.in_ok-read_address.ensures.back event.va wide.va numbers.va in cc in
    let pa : c.in_ok-read_hex.field-0 ≡ event.pa = let back = c.in_ok-read_hex.ensures.read_back event.pa wide.pa numbers.pa in cc in
    let size : c.in_ok-read_size.field-0 ≡ event.size = let back = c.in_ok-read_size.ensures.back event.size (size_of event grammar) numbers.size in cc in
    let value : c.in_ok-read_hex-2.field-0 ≡ event.value = let back = c.in_ok-read_hex-2.ensures.read_back event.value wide.value numbers.value in cc in
    rw (tick, kind, cached, quiet, va, pa, size, value) refl
