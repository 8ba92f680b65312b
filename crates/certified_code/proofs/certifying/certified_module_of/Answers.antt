use Rattle.std.proofs.Common.{Err, ap, inl, inr, subst}
use Rattle.module_builder.specs.declared.fault.GenFault.TheVariants.{Invalid}
use Rattle.code_pieces.proofs.Faults.{handed_on}
use Rattle.certified_code.specs.CertifiedModules.{AreCertified, AreRefused}
use Rattle.certified_code.proofs.certifying.certified_module_of.Goals as goal

pub returns-clause-ok : goal.returns-clause-ok
returns-clause-ok c = record {
  is_module = c.in_ok-bytes.ensures.ok;
  certified = subst AreCertified c.deref.ensures.value c.in_ok-certify.ensures.ok;
}

pub returns-in_err-bytes-clause-invalid : goal.returns-in_err-bytes-clause-invalid
returns-in_err-bytes-clause-invalid c = λ e.
    let fault = handed_on c.from_residual.result c.in_err-bytes.field-0.0 Invalid c.from_residual.ensures.1 e in
    inl (c.in_err-bytes.ensures.invalid (ap Err fault))

pub returns-in_err-certify-clause-invalid : goal.returns-in_err-certify-clause-invalid
returns-in_err-certify-clause-invalid c = λ e.
    let fault = handed_on c.from_residual-in_err-certify.result c.in_err-certify.field-0.0 Invalid
    c.from_residual-in_err-certify.ensures.1 e in
    inr (record {
      bytes = c.in_ok-bytes.bytes.items;
      is_module = c.in_ok-bytes.ensures.ok;
      refused = subst AreRefused c.deref.ensures.value (c.in_err-certify.ensures.invalid fault);
    })
