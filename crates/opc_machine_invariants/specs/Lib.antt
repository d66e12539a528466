pub mod KeptInvariants
pub mod ComeBack
